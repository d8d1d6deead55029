use Rattle.std.proofs.Common.{rules}
use Rattle.flute_journal.proofs.framing_lemmas.Records.{record_taken}
use Rattle.flute_journal.proofs.readers.datagram_reader.read_record.Goals as goal

pub returns-in_default-2-clause-reads : goal.returns-in_default-2-clause-reads
returns-in_default-2-clause-reads g c = search (rules, record_taken)
