use Rattle.flute_journal.proofs.{Common.{rules}, Numbers.{octets}, format_lemmas.Decoded.{id_read}}
use Rattle.flute_journal.proofs.format.decode.id_at.Goals as goal

pub returns : goal.returns
returns c = search (rules, id_read, octets)
