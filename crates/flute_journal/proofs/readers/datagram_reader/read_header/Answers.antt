use Rattle.flute_journal.proofs.Common.{◌≡◌, refl, file_header}
use Rattle.flute_journal.proofs.readers_lemmas.Bodies.{opening_reads}
use Rattle.flute_journal.proofs.readers_lemmas.FileCalls.{opening_told}
use Rattle.flute_journal.proofs.readers.datagram_reader.read_header.Goals as goal

pub returns-clause-reads : goal.returns-clause-reads
returns-clause-reads g c =
    let front = c.read_up_to-read.result in
    rw c.or_failed.ensures (opening_reads file_header front.failed
    c.check_opening.result refl c.read_up_to-read.ensures.filled c.check_opening.ensures)

pub returns-clause-faults : goal.returns-clause-faults
returns-clause-faults g c =
    let front = c.read_up_to-read.result in
    rw c.or_failed.ensures (opening_told file_header front.failed front.bytes.now
    c.check_opening.result (λ x. x ≡ file_header) c.check_opening.ensures)
