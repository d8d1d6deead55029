-- DatagramReader::next_with: the next record or the end, after the header or a record; or a fault.
use Rattle.flute_journal.proofs.Common.{Err, file_framing, refl, rules, state_after, ◌≡◌}
use Rattle.flute_journal.proofs.framing_lemmas.Framed.{ReadsWithin, reads_header, gives_from}
use Rattle.flute_journal.proofs.framing_lemmas.Framings.{file_sound}
use Rattle.flute_journal.proofs.readers_lemmas.FileCalls.{reads_file_first, reads_record}
use Rattle.flute_journal.proofs.readers.datagram_reader.DatagramReader.next_with.Goals.{in-Header+in-Ok, in-Items}
use Rattle.flute_journal.proofs.readers.datagram_reader.DatagramReader.next_with.Goals.{in-Ok-Some, in-Ok-None, in-Err-given}
use Rattle.flute_journal.proofs.readers.datagram_reader.DatagramReader.next_with.Goals as goal

pub returns-in-Err-clause-gives : goal.returns-in-Err-clause-gives
returns-in-Err-clause-gives g c =
    let f = c.in-Err.fault in
    let h = c.in-Err.ensures in
    gives_from file_framing c.args.self.now.max_records tt _ _ (Err f) c.in-Header.is refl (
      refl,
      reads_header file_sound c.args.self.now.max_records tt _ _ h.reads h.memory h.faults
          c.read_header.ensures.advances,
    )

pub returns-clause-gives : goal.returns-clause-gives
returns-clause-gives g c =
    let limit = c.args.self.now.max_records in
    let given = c.read_record-given.result in
    let after : c.match-given.self ≡ state_after file_framing c.match-self.count given = elim
    c.match-given.branch [
      | in-Ok-Some w ↦ search rules
      | in-Ok-None w ↦ search rules
      | in-Err-given w ↦ search rules
    ] in elim c.match-self.branch [
      | in-Header+in-Ok w ↦ let read = rw (w.count-is, w.self-is) at c.read_record-given.ensures in
          let within : ReadsWithin file_framing limit 0 (g.R.Source.unread w.read_header.new.source)
          (g.R.Source.unread c.read_record-given.new.source) given = record {
            next = read.reads;
            within = read.within;
            possible = read.faults;
          } in gives_from file_framing limit tt _ _ given w.in-Header.is (rw w.count-is at after)
          (refl, reads_file_first _ w.in-Ok.ensures.reads.1 within)
      | in-Items w ↦ let read = rw (w.count-is, w.self-is) at c.read_record-given.ensures in
          gives_from file_framing limit tt _ _ given w.in-Items.is (rw w.count-is at after)
          (refl, reads_record limit _ _ _ given read.reads read.within read.faults)
    ]
