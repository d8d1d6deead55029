-- Lead::look: none of the streams that were looked at holds a fact before the next address.
use Rattle.flute_streams.proofs.Common.{◌≡◌, false, length}
use Rattle.flute_streams.proofs.merge_lemmas.LeadFacts.{FirstsFrom}
use Rattle.flute_streams.proofs.merge.leading.Lead.look.Given as goal

abbrev pub invariant-loop-other : goal.invariant-loop-other
invariant-loop-other g l = record {
  firsts : FirstsFrom g.G.Streams.behaviour l.fn.number l.other
      (g.G.Streams.streams l.fn.streams) l.self.next;
  number : l.self.number ≡ l.fn.number;
  known : l.self.known ≡ false;
  all : length (g.G.Streams.streams l.fn.streams) ≡ l.other-end;
}
