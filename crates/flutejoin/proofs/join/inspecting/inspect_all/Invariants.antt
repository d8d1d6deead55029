-- inspect_all: the inputs so far were inspected.
use Rattle.std.proofs.Common.{◌≡◌, ◌≤◌, []}
use Rattle.flutejoin.specs.Asides.{PutsAside}
use Rattle.flutejoin.specs.Joined.{choice_of}
use Rattle.flutejoin.specs.Limits.{at_most}
use Rattle.flutejoin.proofs.join_lemmas.Inspections.{InspectedSoFar}
use Rattle.flutejoin.proofs.join.inspecting.inspect_all.Given as goal

abbrev pub invariant-loop-k : goal.invariant-loop-k
invariant-loop-k g l = record {
  inspected : InspectedSoFar
      (choice_of (at_most g.row.SESSIONS g.row.OBJECTS g.row.SYMBOLS) l.fn.sender l.fn.objects)
      g.R.Source.unread g.R.Source.buffered g.R.Source.failures (g.A.Asides.tells l.fn.asides)
      l.fn.inputs l.inputs l.held l.k;
  same_tells : g.A.Asides.tells l.asides ≡ g.A.Asides.tells l.fn.asides;
  made : g.A.Asides.made l.fn.asides ≤ g.A.Asides.made l.asides;
  put : PutsAside (g.A.Asides.made l.fn.asides) (g.A.Asides.made l.asides) [] l.held.runs.items;
}
