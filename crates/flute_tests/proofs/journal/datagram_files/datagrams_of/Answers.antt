-- datagrams_of, a test's helper: its loop over the records, and its fault.
use Rattle.std.proofs.Common.{◌≡◌, [], ◌∷◌, ◌++◌, sym, ap, ◌∙◌, subst, arith, Err}
use Rattle.std.proofs.lemmas.Result.{err_from_is_err_and}
use Rattle.flute_journal.specs.Framing.{GivesItem, GivesFault, Sofar}
use Rattle.flute_journal.specs.FileFraming.{file_framing}
use Rattle.flute_journal.proofs.Public.{sofar-fault, file_sound, sofar-next}
use Rattle.flute_tests.proofs.journal.datagram_files.datagrams_of.Goals as goal

pub returns-in_err-datagram-clause-fault : goal.returns-in_err-datagram-clause-fault
returns-in_err-datagram-clause-fault g c =
    let limit = c.args.max_records in
    let f = c.in_err-datagram.field-0.0 in
    let old = c.loop-datagrams.reader.state in
    let new = c.next.new.self.state in
    let u = g.R.Source.unread c.args.source.now in
    let v = g.R.Source.unread c.loop-datagrams.reader.source.now in
    let w = g.R.Source.unread c.next.new.self.source.now in
    let gave : GivesFault file_framing limit old new v w f =
    subst (λ n. GivesFault file_framing n old new v w f) c.loop-datagrams.invariant.1
    c.in_err-datagram.ensures.gives in
    let e = err_from_is_err_and c.from_residual.result c.from_residual.ensures.1 in
    rw (e.1 ∙ ap Err e.2) (sofar-fault file_sound c.loop-datagrams.invariant.0 gave)

pub loop-datagrams-preserved : goal.loop-datagrams-preserved
loop-datagrams-preserved g c =
    let limit = c.args.max_records in
    let ds = c.loop-datagrams.datagrams.items in
    let d = c.in-Some.datagram in
    let old = c.loop-datagrams.reader.state in
    let new = c.next.new.self.state in
    let u = g.R.Source.unread c.args.source.now in
    let v = g.R.Source.unread c.loop-datagrams.reader.source.now in
    let w = g.R.Source.unread c.next.new.self.source.now in
    let gave : GivesItem file_framing c.loop-datagrams.reader.max_records old new v w d =
    rw c.in-Some.is at c.in_ok-datagram.ensures.gives in
    let gave' : GivesItem file_framing limit old new v w d =
    subst (λ n. GivesItem file_framing n old new v w d) c.loop-datagrams.invariant.1 gave in
    let grown : c.push.new.self.items ≡ ds ++ d ∷ [] = grind arith in (
      subst (Sofar file_framing limit u w new) (sym grown)
          (sofar-next file_sound c.loop-datagrams.invariant.0 gave'),
      c.next.ensures.limit ∙ c.loop-datagrams.invariant.1,
    )
