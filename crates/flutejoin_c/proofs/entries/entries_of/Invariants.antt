-- entries_of: what the entries say that were read so far is listed.
use Rattle.std.proofs.Common.{◌-◌}
use Rattle.flute_journal.specs.Framing.{count_at}
use Rattle.flute_journal.specs.JournalFraming.{journal_framing}
use Rattle.flutejoin.specs.declared.limits.TheConstants.{MAX_ENTRIES}
use Rattle.flutejoin_c.proofs.Listed.{ListedSoFar}
use Rattle.flutejoin_c.proofs.entries.entries_of.Given as goal

abbrev pub invariant-loop-listed : goal.invariant-loop-listed
invariant-loop-listed l = ListedSoFar l.journal l.reader l.listed.items

abbrev pub decreases-loop-listed : goal.decreases-loop-listed
decreases-loop-listed l = MAX_ENTRIES - count_at journal_framing l.reader.state
