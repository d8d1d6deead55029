-- extract --all: the file name of an object, piece by piece (specs/FileNames).
use Rattle.std.proofs.Common.{arith}
use Rattle.std.proofs.lemmas.Grind.{common_steps}
use Rattle.std.proofs.Common.{rules}
use Rattle.std.proofs.Common.{◌≡◌, ℕ, List, ◌++◌, codes, decimal, Some}
use Rattle.std.specs.Int.{bytes_high_first}
use Rattle.hex.specs.Hex.{encode_lower}
use Rattle.flute_parts.specs.ObjectName.{instance_of}
use Rattle.flute_parts.specs.declared.key.Key.{Key}
use Rattle.flute_parts.specs.declared.object_key.ObjectName.{ObjectName}
use Rattle.flutejoin.specs.FileNames.{file_name, object_name}

four : (d a b e n : List ℕ) → (((d ++ a) ++ b) ++ e) ++ n ≡ d ++ (a ++ (b ++ (e ++ n)))
four d a b e n = grind (arith, common_steps)

pub name_pieces : (key : Key) {t1 t2 t3 t4 t5 digits : List ℕ} {tsi : ℕ}
    → digits ≡ encode_lower (bytes_high_first 16 key.session.sender) → tsi ≡ key.session.tsi
    → t1 ≡ digits → t2 ≡ t1 ++ codes "-" → t3 ≡ t2 ++ decimal tsi
    → t4 ≡ t3 ++ codes "-" → t5 ≡ t4 ++ object_name key.object → t5 ≡ file_name key
unfolding file_name
name_pieces key {digits} {tsi} d s e1 e2 e3 e4 e5 = search (rules, four)

-- the words of an FDT Instance
pub instance_name : (name : ObjectName) {i : ℕ} → instance_of name ≡ Some i
    → object_name name ≡ codes "fdt" ++ decimal i
instance_name = search rules
