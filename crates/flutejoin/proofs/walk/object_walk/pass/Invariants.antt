-- pass: the gaps that were given were told, and nothing was passed.
use Rattle.std.proofs.Common.{◌≡◌, ◌+◌, [], List, Some, None, length}
use Rattle.flute_store.specs.PartitionScan.{walk_of, symbols_left}
use Rattle.flute_store.specs.Scan.{Scanned, CanFollow}
use Rattle.flute_store.specs.Scans.{Scans, one_run}
use Rattle.flutejoin.specs.Progress.{IsBroken, progress_of}
use Rattle.flutejoin.specs.Told.{Told}
use Rattle.flutejoin.proofs.walk_lemmas.Turns.{Gave}
use Rattle.flutejoin.proofs.walk.object_walk.pass.Given as goal

abbrev pub invariant-loop-gap : goal.invariant-loop-gap
invariant-loop-gap g l = record {
  gave : (s : Scanned) → Scans l.initial.scan s → CanFollow s l.next → s.coming ≡ None
      → (s.bytes ≡ None → IsBroken s.key s.facts)
      → (h : Gave s l.next l.scan)
      × ((at : g.V.Visitor.At) (objects : List Told)
      → g.V.Visitor.Has at objects (Some (progress_of s)) l.initial.visitor
      → g.V.Visitor.Has at objects (Some (progress_of h.t)) l.visitor);
  kept : g.V.Visitor.kept l.visitor ≡ g.V.Visitor.kept l.initial.visitor;
  failures : g.V.Visitor.fails l.visitor ≡ g.V.Visitor.fails l.initial.visitor;
}

abbrev pub decreases-loop-gap : goal.decreases-loop-gap
decreases-loop-gap g l = length (symbols_left (walk_of l.scan.walk [])) + one_run l.scan.walk.run
