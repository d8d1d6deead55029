-- read_into: its loop shows the entries to the writer, up to the end or a fault.
use Rattle.std.proofs.Common.{[], Err, refl, sym, ap, ◌∙◌, arith}
use Rattle.std.proofs.lemmas.Result.{err_from_is_err_and}
use Rattle.flute_journal.specs.declared.format.version.Version.TheVariants.{Two}
use Rattle.flute_journal.proofs.Public.{given-entry, loaded-read, sofar-none, journal_sound}
use Rattle.flutejoin.proofs.extract_lemmas.Extracted.{passing-next, passing-fault, passing-full}
use Rattle.flutejoin.proofs.extract_lemmas.Extracted.{passing-end, given-fault, given-end}
use Rattle.flute_parts.specs.Addresses.{fact_of}
use Rattle.flute_journal.specs.HeldEntries.{fact_held}
use Rattle.flute_journal.proofs.Public.{left_all}
use Rattle.flute_streams.proofs.Public.{nothing_held}
use Rattle.flutejoin.proofs.extract_lemmas.Extracted.{at_left}
use Rattle.flutejoin.proofs.HeldEntries.{none_held, one_held}
use Rattle.flutejoin.proofs.extract.read_into.Goals as goal

pub loop-held-init : goal.loop-held-init
loop-held-init g c =
    let u = g.R.Source.unread c.args.reader.now.source.now in
    record {
      passing = record {
        entries = [];
        sofar = rw (left_all u, c.requires.new) (sofar-none journal_sound Two _ u);
        counts = c.new-tally.ensures;
        stands = c.requires.none (g.W.Sink.written c.args.sink.now);
      };
      limit = c.requires.limit;
      source = refl;
      key = refl;
      reads = refl;
      untouched = λ u. refl;
      writes = let e = c.requires.good in grind (arith);
    }

pub returns-in_err-next_into-clause-passed : goal.returns-in_err-next_into-clause-passed
returns-in_err-next_into-clause-passed g c =
    let e = err_from_is_err_and c.from_residual.result c.from_residual.ensures.1 in
    let f = c.in_err-next_into.field-0.0 in
    let to = c.next_into.new.self in
    let holds = c.in_err-next_into.ensures.holds in
    let buffer = g.R.Source.buffered to.source.now in
    let all = nothing_held buffer c.next_into.new.held (g.R.Source.unread to.source.now)
    (ap (fact_held buffer) holds.none) in rw (e.1 ∙ ap Err e.2) (at_left all (passing-fault
    c.loop-held.invariant.passing f (given-fault c.loop-held.invariant.limit holds.gives)))

pub returns-then-not-count-clause-passed : goal.returns-then-not-count-clause-passed
returns-then-not-count-clause-passed g c =
    let is = one_held _ c.fact.ensures c.buffer.ensures c.in-Some.is in
    passing-full c.loop-held.invariant.passing _ _
    (given-entry _ _ _ _ c.loop-held.invariant.limit is c.in_ok-next_into.ensures.holds.gives)
    (λ F r k. c.count.ensures.over F (fact_of c.in-Some.fact) (sym c.address.ensures) r k
    c.if-not-count.true)

pub loop-held-preserved : goal.loop-held-preserved
loop-held-preserved g c =
    let i = c.loop-held.invariant in
    let f = fact_of c.in-Some.fact in
    let is = one_held _ c.fact.ensures c.buffer.ensures c.in-Some.is in
    let holds = c.in_ok-next_into.ensures.holds in
    record {
      passing =
          passing-next i.passing f _ _ _ (given-entry _ _ _ _ i.limit is holds.gives)
          (λ F r k. c.count.ensures.within F f (sym c.address.ensures) r k c.if-not-count.false)
          (λ P r h. c.pass.ensures.passed P _ r h);
      limit = c.next_into.ensures.limit ∙ i.limit;
      source = c.next_into.ensures.source ∙ i.source;
      key = c.pass.ensures.key ∙ i.key;
      reads = loaded-read _ _ _ _ i.reads holds.failed;
      untouched = λ u. let x = c.pass.ensures.untouched u in x.1 ∙ i.untouched x.0;
      writes = let e = c.pass.ensures.failures in let w = i.writes in omega (arith, e, w);
    }

pub returns-in_default-clause-passed : goal.returns-in_default-clause-passed
returns-in_default-clause-passed g c =
    let i = c.loop-held.invariant in
    let to = c.next_into.new.self in
    let is = none_held _ c.fact.ensures c.buffer.ensures c.in_default.is in
    let all = nothing_held _ _ _ is in
    at_left all
    (passing-end i.passing (given-end _ _ _ _ _ _ is c.in_ok-next_into.ensures.holds.gives))
