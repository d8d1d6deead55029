use Rattle.flute_journal.proofs.framing_lemmas.Decisions.{decided}
use Rattle.flute_journal.proofs.framing_lemmas.Framings.{file_sound}
use Rattle.flute_journal.proofs.framing_lemmas.Files
use Files.{file_stops_at_bound, file_stops_once, no_fault, one_reading, record_found}
use Rattle.flute_journal.proofs.laws.bytes_are_a_file_or_stop.Goals as goal

pub returns : goal.returns
returns c = record {
  either = decided file_sound record_found;
  never_both = no_fault;
  once = file_stops_once;
  bound = file_stops_at_bound;
  one_reading = one_reading;
}
