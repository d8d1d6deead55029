use Rattle.std.proofs.Common.{rules}
use Rattle.flutejoin.proofs.join_lemmas.InputStreams.{journal_goes_on, journal_stops}
use Rattle.flutejoin.proofs.join.join_input.JoinInputStream.advance.Goals as goal

pub returns-in-Journal-clause-goes_on : goal.returns-in-Journal-clause-goes_on
returns-in-Journal-clause-goes_on g c = search (rules, journal_goes_on)

pub returns-in-Journal-clause-stops : goal.returns-in-Journal-clause-stops
returns-in-Journal-clause-stops g c = search (rules, journal_stops)
