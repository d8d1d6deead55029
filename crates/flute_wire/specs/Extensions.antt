-- Header extensions.
use Rattle.std.specs.Prelude.{◌≡◌, ℕ, ◌+◌, ◌*◌, ◌/◌, ◌%◌, ◌^◌, ◌==◌}
use Rattle.std.specs.Prelude.{nat_lt, List, [], ◌∷◌, length, map, filter, slice_index}
use Rattle.std.specs.Prelude.{slice_range, Option, Some, None, if◌then◌else◌}
use Rattle.std.specs.List.{flat_map, AllByRecursion}
use Rattle.flute_parts.specs.Information.{Information, information}
use Rattle.flute_parts.specs.BigEndian.{big_endian}

-- an extension: its type HET, and the bytes after that (RFC 5651, 5.2)
pub record HeaderExtension : Type 0 where
  pub het : ℕ
  pub body : List ℕ

-- how many 32-bit words it has: below HET 128 as HEL, the next byte, says, and else
-- one (RFC 5651, 5.2)
abbrev pub words : HeaderExtension → ℕ
words e = if nat_lt e.het 128 then slice_index e.body 0 else 1

-- an extension has as many words of 32 bits as it says, so at least one
abbrev pub IsExtension : HeaderExtension → Type 0
IsExtension e = 1 + length e.body ≡ 4 * words e

-- the bytes of an extension: its type (HET), and what it contains
abbrev pub extension_bytes : HeaderExtension → List ℕ
extension_bytes e = e.het ∷ e.body

-- the bytes are these extensions, one after another (RFC 5651, 5.2)
pub record HasExtensions (bs : List ℕ) (es : List HeaderExtension) : Type 0 where
  pub joined : bs ≡ flat_map extension_bytes es
  pub each : AllByRecursion IsExtension es

-- the bodies of the extensions of one type, in order
abbrev pub bodies : ℕ → List HeaderExtension → List (List ℕ)
bodies het es = map (λ e. e.body) (filter (λ e. e.het == het) es)

-- the types that FLUTE reads (RFC 5775, 4.2; RFC 6726, 3.4.1 and 3.4.3)
abbrev pub ext_fti : ℕ
ext_fti = 64

-- the type of the extension with the FDT Instance ID (RFC 6726, 3.4.1)
abbrev pub ext_fdt : ℕ
ext_fdt = 192

-- the type of the extension with the content encoding of an FDT Instance (RFC 6726, 3.4.3)
abbrev pub ext_cenc : ℕ
ext_cenc = 193

-- EXT_FTI of FEC Encoding ID 0: after HEL six bytes of transfer length, two that are
-- reserved, two of encoding symbol length and four of maximum source block length
-- (RFC 5775, 4.2; RFC 5445, 3.2.2.2)
abbrev pub fti_information : List ℕ → Information
fti_information body =
    information (big_endian (slice_range body 1 7)) (big_endian (slice_range body 9 11))
    (big_endian (slice_range body 11 15))

-- EXT_FDT: four bits of FLUTE's version and twenty of the FDT Instance ID (RFC 6726, 3.4.1)
abbrev pub fdt_version : List ℕ → ℕ
fdt_version body = big_endian body / 2 ^ 20

-- the FDT Instance ID in an extension: its last 20 bits
abbrev pub fdt_instance : List ℕ → ℕ
fdt_instance body = big_endian body % 2 ^ 20

-- EXT_CENC: one byte of content encoding, 0 for none (RFC 6726, 3.4.3)
abbrev pub content_encoding : List ℕ → ℕ
content_encoding body = slice_index body 0

-- the first of a list
abbrev pub first : {X : Type 0} → List X → Option X
first [] = None
first (x ∷ xs) = Some x
