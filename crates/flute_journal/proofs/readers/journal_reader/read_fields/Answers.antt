-- read_fields: the next entry or the end, after the header or after an entry; or a fault.
use Rattle.std.proofs.Common.{rules}
use Rattle.flute_journal.proofs.Common.{None, journal_framing, refl, sym, ◌∙◌}
use Rattle.flute_journal.proofs.framing_lemmas.Framed.{ReadsWithin, reads_header}
use Rattle.flute_journal.proofs.framing_lemmas.Framed.{reads_first, gives_from}
use Rattle.flute_journal.proofs.framing_lemmas.Framings.{journal_sound}
use Rattle.flute_journal.proofs.readers_lemmas.Calls.{any_fault, reads_entries}
use Rattle.flute_journal.proofs.readers.journal_reader.read_fields.Goals.{in-Header+in-Ok, in-Items}
use Rattle.flute_journal.proofs.readers.journal_reader.read_fields.Goals as goal

pub returns-in-Err-clause-gives : goal.returns-in-Err-clause-gives
returns-in-Err-clause-gives g c = search (rules, gives_from, reads_header, journal_sound) steps
    400000

pub returns-clause-gives : goal.returns-clause-gives
returns-clause-gives g c =
    let limit = c.args.max_entries in
    let given = c.read_entry-given.result in
    elim c.match-replace.branch [
      | in-Header+in-Ok w ↦
          let version = w.in-Ok.version in
          let read = rw (w.before-is, w.source-is) at c.read_entry-given.ensures in
          let within : ReadsWithin journal_framing limit
          (record { version = version; count = 0; last = None })
          (g.R.Source.unread w.read_header.new.source)
          (g.R.Source.unread c.read_entry-given.new.source) given =
          record { next = read.reads; within = read.within; possible = any_fault given } in
          gives_from journal_framing limit version _ _ given
          (sym c.replace.ensures.value ∙ w.in-Header.is) (rw w.before-is at c.state_after.ensures)
          (refl, reads_first journal_sound version _ _ w.in-Ok.ensures.reads.1 within)
      | in-Items w ↦
          let before = w.in-Items.before in
          let read = rw (w.before-is, w.source-is) at c.read_entry-given.ensures in
          gives_from journal_framing limit before.version _ _ given
          (sym c.replace.ensures.value ∙ w.in-Items.is) (rw w.before-is at c.state_after.ensures)
          (refl, reads_entries limit before _ _ given read.reads read.within)
    ]
