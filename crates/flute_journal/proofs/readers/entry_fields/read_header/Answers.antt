use Rattle.std.proofs.Common.{rules}
use Rattle.flute_journal.proofs.Common.{}
use Rattle.flute_journal.proofs.{readers_lemmas.Bodies.{header_reads}}
use Rattle.flute_journal.proofs.readers.entry_fields.read_header.Goals as goal

pub returns-clause-reads : goal.returns-clause-reads
returns-clause-reads g c = search (rules, header_reads)
