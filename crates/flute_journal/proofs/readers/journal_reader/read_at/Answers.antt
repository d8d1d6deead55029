use Rattle.flute_journal.proofs.Common.{ap, sym, ◌∙◌}
use Rattle.flute_journal.proofs.readers_lemmas.Calls.{gives_at}
use Rattle.flute_journal.proofs.readers.journal_reader.read_at.Goals.{in-Items+then-before-max_entries+in-Ok-None}
use Rattle.flute_journal.proofs.readers.journal_reader.read_at.Goals.{in-Items+else-before-max_entries}
use Rattle.flute_journal.proofs.readers.journal_reader.read_at.Goals.{in_default}
use Rattle.flute_journal.proofs.readers.journal_reader.read_at.Goals as goal

pub returns-clause-gives : goal.returns-clause-gives
returns-clause-gives g c =
    let gives = c.read_fields.ensures.gives in
    elim c.match-state.branch [
      | in-Items+then-before-max_entries+in-Ok-None w ↦ let same = rw w.in-Ok-None.field-0-is at
          w.in-Ok-None.ensures.takes in gives_at _ _ _ _ (w.state-is ∙ sym w.in-Items.is)
          (ap g.R.Source.unread w.source-is ∙ same) gives
      | in-Items+else-before-max_entries w ↦ gives_at _ _ _ _ (w.state-is ∙ sym w.in-Items.is)
          (ap g.R.Source.unread w.source-is) gives
      | in_default w ↦ gives_at _ _ _ _ w.state-is (ap g.R.Source.unread w.source-is) gives
    ]
