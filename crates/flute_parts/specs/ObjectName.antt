-- What names an object within its session.
use Rattle.std.specs.Prelude.{ℕ, ◌<◌, ◌≤◌, ◌^◌, Option, Some, None}
use Rattle.flute_parts.specs.declared.object_key.ObjectName.{ObjectName}
use Rattle.flute_parts.specs.declared.object_key.ObjectName.TheVariants.{Instance, File}

-- an FDT Instance ID has 20 bits (RFC 6726, 3.4.1), and a Transport Object Identifier at most 112
-- (RFC 5651, 5.1)
abbrev pub IsObjectName : ObjectName → Type 0
IsObjectName (Instance n) = n < 2 ^ 20
IsObjectName (File n) = (1 ≤ n) × (n < 2 ^ 112)

-- FDT Instances are sent with the Transport Object Identifier 0 (RFC 6726, 3.4)
abbrev pub toi_of : ObjectName → ℕ
toi_of (Instance n) = 0
toi_of (File n) = n

-- and only they have an FDT Instance ID (RFC 6726, 3.4.1)
abbrev pub instance_of : ObjectName → Option ℕ
instance_of (Instance n) = Some n
instance_of (File n) = None
