use Rattle.std.proofs.Common.{rules, [], ◌∷◌, ◌++◌, refl, ◌∙◌, subst, arith}
use Rattle.std.proofs.lemmas.List.{length_push}
use Rattle.flute_journal.specs.FileFraming.{file_framing}
use Rattle.flute_journal.specs.Framing.{GivesItem, GivesFault}
use Rattle.flute_journal.proofs.framing_lemmas.Framings.{file_sound}
use Rattle.flute_journal.proofs.framing_lemmas.SoFar.{sofar-next, sofar-fault}
use Rattle.flute_journal.proofs.readers.each_datagram.for_each_datagram.Goals as goal

pub loop-datagram-init : goal.loop-datagram-init
loop-datagram-init g c = (
  record {
    datagrams = [];
    taken = g.met.D.Datagrams.none c.args.datagrams.now;
    first = search rules;
  },
  refl,
  c.new-reader.ensures.limit,
)

pub loop-datagram-preserved : goal.loop-datagram-preserved
loop-datagram-preserved g c =
    let i = c.loop-datagram.invariant in
    let d = c.in-Ok-Some.datagram in
    let taken = subst
    (λ bytes. g.D.Datagrams.takes c.loop-datagram.datagrams (bytes ∷ [])
    c.datagram-in-Ok-Some.new.self) c.as_slice.ensures.bytes c.in_default.ensures.taken in
    let gave = subst
    (λ n. GivesItem file_framing n c.loop-datagram.reader.state c.next_with.new.self.state
    (g.R.Source.unread c.loop-datagram.reader.source.now)
    (g.R.Source.unread c.next_with.new.self.source.now) d) i.2
    (rw c.in-Ok-Some.field-0-is at c.in-Ok-Some.ensures.gives) in (
      record {
        datagrams = i.0.datagrams ++ d ∷ [];
        taken = g.met.D.Datagrams.more c.args.datagrams.now c.loop-datagram.datagrams
            c.datagram-in-Ok-Some.new.self i.0.datagrams (d ∷ []) i.0.taken taken;
        first = sofar-next file_sound i.0.first gave;
      },
      omega (arith, i.1, length_push i.0.datagrams d),
      c.next_with.ensures.limit ∙ i.2,
    )

pub returns-in-Err-clause-fault : goal.returns-in-Err-clause-fault
returns-in-Err-clause-fault g c =
    let i = c.loop-datagram.invariant in
    let gave = subst
    (λ n. GivesFault file_framing n c.loop-datagram.reader.state c.next_with.new.self.state
    (g.R.Source.unread c.loop-datagram.reader.source.now)
    (g.R.Source.unread c.next_with.new.self.source.now) c.in-Err.fault) i.2
    c.in-Err.ensures.gives in
    (sofar-fault file_sound i.0.first gave, (_, _, i.0))
