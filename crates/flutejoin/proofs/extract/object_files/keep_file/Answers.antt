-- keep_file: the open file is kept, if there is one.
use Rattle.flutejoin.proofs.extract_lemmas.FilesTold.{kept_one, no_files}
use Rattle.flutejoin.proofs.extract_lemmas.FolderSteps.{did_stay, keeps_stay}
use Rattle.flutejoin.proofs.extract.object_files.keep_file.Goals as goal

pub returns-in_ok-keep-in-Some-clause-kept : goal.returns-in_ok-keep-in-Some-clause-kept
returns-in_ok-keep-in-Some-clause-kept g c = λ files file p0 some filled.
    kept_one _ _ _ _ _ (c.in-Some.is, some) filled c.in_ok-keep-in-Some.ensures.kept

pub returns-in_ok-keep-in-Some-clause-stays : goal.returns-in_ok-keep-in-Some-clause-stays
returns-in_ok-keep-in-Some-clause-stays g c = did_stay _ keeps_stay _ _ c.in_ok-keep-in-Some.ensures.kept

pub returns-in-None-clause-kept : goal.returns-in-None-clause-kept
returns-in-None-clause-kept g c = λ files file p0 some filled.
    no_files _ _ _ _ c.in-None.is some filled
