use Rattle.std.proofs.Common.{rules}
use Rattle.flute_journal.proofs.framing_lemmas.SoFar.{sofar-none, sofar-next, sofar-fault}
use Rattle.flute_journal.proofs.framing_lemmas.Framings.{file_sound}
use Rattle.flute_journal.proofs.laws.a_file_is_read_record_by_record.Goals as goal

pub returns-clause-begins : goal.returns-clause-begins
returns-clause-begins c = sofar-none file_sound tt

pub returns-clause-goes_on : goal.returns-clause-goes_on
returns-clause-goes_on c limit u v w old new ds d s h = sofar-next file_sound s h

pub returns-clause-ends : goal.returns-clause-ends
returns-clause-ends c limit u v w old new ds s h = search rules

pub returns-clause-stops : goal.returns-clause-stops
returns-clause-stops c limit u v w old new ds f s h = sofar-fault file_sound s h
