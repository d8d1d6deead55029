-- Which datagram spells which packet.
use Rattle.std.specs.Prelude.{◌≡◌, ℕ, ◌+◌, ◌≤◌, ◌<◌, ◌⊎◌, ◌==◌}
use Rattle.std.specs.Prelude.{nat_lt, List, [], ◌++◌, length, take, drop, slice_range, Option}
use Rattle.std.specs.Prelude.{Some, None, IfSome, IsSomeAnd, if◌then◌else◌}
use Rattle.std.specs.Option.{option_map}
use Rattle.flute_parts.specs.Information.{info_fault}
use Rattle.flute_parts.specs.declared.symbol_id.SymbolId.{SymbolId}
use Rattle.flute_parts.specs.BigEndian.{big_endian}
use Rattle.flute_wire.specs.Header.{fields, cci_len, tsi_len, toi_len, header_len}
use Rattle.flute_wire.specs.Extensions.{HeaderExtension, HasExtensions, bodies, ext_fti, ext_fdt}
use Rattle.flute_wire.specs.Extensions.{ext_cenc, fti_information, fdt_version, fdt_instance}
use Rattle.flute_wire.specs.Extensions.{content_encoding, first}
use Rattle.flute_wire.specs.Content.{Content}

-- the parts of a datagram, in order
pub record Parts : Type 0 where
  pub word : List ℕ
  pub cci : List ℕ
  pub tsi : List ℕ
  pub toi : List ℕ
  pub area : List ℕ
  pub extensions : List HeaderExtension
  pub tail : List ℕ

-- the datagram has these parts, each as long as the first word says (RFC 5651, 5.1)
pub record HasParts (d : List ℕ) (p : Parts) : Type 0 where
  pub joined : d ≡ p.word ++ (p.cci ++ (p.tsi ++ (p.toi ++ (p.area ++ p.tail))))
  pub word : length p.word ≡ 4
  pub cci : length p.cci ≡ cci_len (fields (big_endian p.word))
  pub tsi : length p.tsi ≡ tsi_len (fields (big_endian p.word))
  pub toi : length p.toi ≡ toi_len (fields (big_endian p.word))
  pub header : length p.word + length p.cci + length p.tsi + length p.toi + length p.area
      ≡ header_len (fields (big_endian p.word))
  pub extensions : HasExtensions p.area p.extensions

-- this profile accepts it: one EXT_FTI, EXT_FDT and EXT_CENC at most, with what it can read in them
pub record IsAccepted (d : List ℕ) (p : Parts) : Type 0 where
  pub limit : length d ≤ 65535
  pub version : (fields (big_endian p.word)).version ≡ 1
  pub codepoint : (fields (big_endian p.word)).codepoint ≡ 0
  pub tsi : 0 < length p.tsi
  pub toi : 0 < length p.toi
  pub one_fti : length (bodies ext_fti p.extensions) ≤ 1
  pub one_fdt : length (bodies ext_fdt p.extensions) ≤ 1
  pub one_cenc : length (bodies ext_cenc p.extensions) ≤ 1
  pub information :
      IfSome (first (bodies ext_fti p.extensions))
      (λ body. (length body ≡ 15) × (info_fault (fti_information body) ≡ None))
  pub instance : big_endian p.toi ≡ 0
      → IsSomeAnd (first (bodies ext_fdt p.extensions)) (λ body. fdt_version body ≡ 2)
  pub plain : IfSome (first (bodies ext_cenc p.extensions)) (λ body. content_encoding body ≡ 0)
  pub payload : (p.tail ≡ []) ⊎ (4 ≤ length p.tail)

-- Source Block Number, Encoding Symbol ID and the bytes after them, unless there are none
-- (RFC 5445, 3.2.1)
abbrev pub tail_symbol : List ℕ → Option (SymbolId × List ℕ)
tail_symbol tail =
    if nat_lt 4 (length tail)
    then Some (
      record { sbn = big_endian (take 2 tail); esi = big_endian (slice_range tail 2 4) },
      drop 4 tail,
    )
    else None

-- what the parts contain
abbrev pub content_of : Parts → Content
content_of p = record {
  tsi = big_endian p.tsi;
  toi = big_endian p.toi;
  instance =
      if big_endian p.toi == 0 then option_map fdt_instance (first (bodies ext_fdt p.extensions))
      else None;
  info = option_map fti_information (first (bodies ext_fti p.extensions));
  symbol = tail_symbol p.tail;
}

-- the datagram is a packet of this content
abbrev pub Spells : List ℕ → Content → Type 0
Spells d c = (p : Parts) × HasParts d p × IsAccepted d p × (c ≡ content_of p)
