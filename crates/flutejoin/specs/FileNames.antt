-- The names of objects as files.
use Rattle.std.specs.Prelude.{ℕ, List, ◌++◌, codes, decimal}
use Rattle.std.specs.Int.{bytes_high_first}
use Rattle.hex.specs.Hex.{encode_lower}
use Rattle.flute_parts.specs.ObjectName.{IsObjectName}
use Rattle.flute_parts.specs.Session.{IsSender, IsTsi}
use Rattle.flute_parts.specs.declared.key.Key.{Key}
use Rattle.flute_parts.specs.declared.object_key.ObjectName.{ObjectName}
use Rattle.flute_parts.specs.declared.object_key.ObjectName.TheVariants.{Instance, File}

-- a file's TOI, or an FDT Instance's ID after fdt
abbrev pub object_name : ObjectName → List ℕ
object_name (File toi) = decimal toi
object_name (Instance instance) = codes "fdt" ++ decimal instance

-- 32 digits of the sender's address, the TSI and the object
unfoldable pub file_name : Key → List ℕ
file_name key =
    encode_lower (bytes_high_first 16 key.session.sender)
    ++ (codes "-" ++ (decimal key.session.tsi ++ (codes "-" ++ object_name key.object)))

-- each number is within its range
pub record IsKey (key : Key) : Type 0 where
  pub sender : IsSender key.session.sender
  pub tsi : IsTsi key.session.tsi
  pub object : IsObjectName key.object
