use Rattle.std.proofs.Common.{subst}
use Rattle.flutejoin.specs.ObjectWriters.{HasFound}
use Rattle.flutejoin.proofs.extract_lemmas.ObjectFacts.{symbol-told}
use Rattle.flutejoin.proofs.extract_lemmas.ObjectWriters.{told-at, symbol-passes}
use Rattle.flutejoin.proofs.extract.object_writer.ObjectWriter.symbol.Goals as goal

pub returns-in-Nothing-clause-passed : goal.returns-in-Nothing-clause-passed
returns-in-Nothing-clause-passed g c = λ P start r h. let key = c.args.self.now.key in
    let found = subst
    (HasFound P key c.args.self.now.failed start (g.W.Sink.written c.args.sink.now)) c.in-Nothing.is
    h in (symbol-told _ P _ _ found.0 (told-at _ _ _), found.1)

pub returns-in_default-clause-passed : goal.returns-in_default-clause-passed
returns-in_default-clause-passed g c = λ P start r h. symbol-passes P _ _ _ _ _
    (record { some = c.in_default.not-Nothing; not_whole = c.in_default.not-Whole }) h
