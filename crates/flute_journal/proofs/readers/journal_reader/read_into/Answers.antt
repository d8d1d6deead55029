-- read_into: nothing was taken, unless the next entry is held in place.
use Rattle.flute_journal.proofs.Common.{rules, subst, ◌≡◌}
use Rattle.flute_journal.specs.HeldEntries.{HoldsNext, reading}
use Rattle.flute_journal.proofs.readers.journal_reader.read_into.Goals.{in-Items+in-Some+in_default-hold_next}
use Rattle.flute_journal.proofs.readers.journal_reader.read_into.Goals.{in-Items+in_default-last}
use Rattle.flute_journal.proofs.readers.journal_reader.read_into.Goals.{in-Items+then-matches+else-before-max_entries}
use Rattle.flute_journal.proofs.readers.journal_reader.read_into.Goals.{in-Items+else-matches}
use Rattle.flute_journal.proofs.readers.journal_reader.read_into.Goals.{in-Header-1}
use Rattle.flute_journal.proofs.readers.journal_reader.read_into.Goals as goal

pub returns : goal.returns
returns g c =
    let same : reading c.match-state.source c.match-state.state c.match-state.held
    ≡ reading c.args.source.now c.args.state.now c.args.held.now = search rules in
    subst (λ old. HoldsNext g.R.Source.unread g.R.Source.buffered g.R.Source.failures
    c.args.max_entries old (reading c.hold_anew.new.source c.hold_anew.new.state
    c.hold_anew.new.held) c.hold_anew.result) same c.hold_anew.ensures
