use Rattle.std.proofs.Common.{rules}
use Rattle.std.proofs.Common.{subst}
use Rattle.flutejoin.specs.ObjectWriters.{HasFound}
use Rattle.flutejoin.proofs.extract_lemmas.ObjectFacts.{conflict-told}
use Rattle.flutejoin.proofs.extract_lemmas.ObjectWriters.{information-passes, of_information, whole-begins}
use Rattle.flutejoin.proofs.extract.object_writer.ObjectWriter.information.Goals as goal
use Rattle.flutejoin.proofs.extract.object_writer.ObjectWriter.information.Goals.{in-Some, in-None}

pub returns-after-info-clause-passed : goal.returns-after-info-clause-passed
returns-after-info-clause-passed c = search (rules, whole-begins, conflict-told)

pub returns-in_default-clause-passed : goal.returns-in_default-clause-passed
returns-in_default-clause-passed c = search (rules, information-passes, of_information)
