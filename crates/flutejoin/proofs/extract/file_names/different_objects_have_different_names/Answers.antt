use Rattle.std.proofs.Common.{rules}
use Rattle.flutejoin.proofs.extract_lemmas.NamesApart.{names_apart}
use Rattle.flutejoin.proofs.extract.file_names.different_objects_have_different_names.Goals as goal

pub returns : goal.returns
returns c = λ a b p q e. names_apart a b p q e
