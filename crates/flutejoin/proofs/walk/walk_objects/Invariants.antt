-- walk_objects: the visitor was told of the entries that were read.
use Rattle.std.proofs.Common.{◌≡◌, ◌-◌}
use Rattle.flute_journal.proofs.Public.{entries_at}
use Rattle.flutejoin.specs.NextEntry.{holding}
use Rattle.flutejoin.specs.declared.limits.TheConstants.{MAX_ENTRIES}
use Rattle.flutejoin.proofs.walk_lemmas.Journals.{WalksRead}
use Rattle.flutejoin.proofs.walk.walk_objects.Given as goal

abbrev pub invariant-loop-held : goal.invariant-loop-held
invariant-loop-held g l = record {
  read : WalksRead g.R.Source.unread g.R.Source.buffered g.V.Visitor.Has
      (g.P.Picks.picks l.picks) (g.R.Source.unread l.fn.source) (holding l.reader l.held) l.tally
      l.walk.open l.fn.visitor l.visitor;
  source : l.reader.source.ghost_name ≡ l.initial.reader.source.ghost_name;
  reads : g.R.Source.failures l.reader.source.now ≡ g.R.Source.failures l.fn.source;
  kept : g.V.Visitor.kept l.visitor ≡ g.V.Visitor.kept l.fn.visitor;
  failures : g.V.Visitor.fails l.visitor ≡ g.V.Visitor.fails l.fn.visitor;
}

abbrev pub decreases-loop-held : goal.decreases-loop-held
decreases-loop-held g l = MAX_ENTRIES - entries_at l.reader.state
