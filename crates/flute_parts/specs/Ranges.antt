-- The ranges of what facts are made of, as the fields of datagrams and of journals have room for.
use Rattle.std.specs.Prelude.{◌≡◌, ℕ, ◌<◌, ◌^◌, List, length, None}
use Rattle.std.specs.List.{AllByRecursion}
use Rattle.flute_parts.specs.Session.{IsSession}
use Rattle.flute_parts.specs.ObjectName.{IsObjectName}
use Rattle.flute_parts.specs.Information.{Information, HasInfoFields, info_fault}
use Rattle.flute_parts.specs.declared.key.Key.{Key}
use Rattle.flute_parts.specs.declared.symbol_id.SymbolId.{SymbolId}
use Rattle.flute_parts.specs.declared.fact.Fact.{Fact}
use Rattle.flute_parts.specs.declared.fact.Fact.TheVariants.{Info, InfoConflict, Symbol}
use Rattle.flute_parts.specs.declared.fact.Fact.TheVariants.{SymbolConflict}

-- a number that is a byte
abbrev pub IsByte : ℕ → Type 0
IsByte b = b < 256

-- a key whose numbers are within their ranges
abbrev pub IsKey : Key → Type 0
IsKey key = IsSession key.session × IsObjectName key.object

-- both numbers have 16 bits (RFC 5445, 3.2.1)
abbrev pub IsId : SymbolId → Type 0
IsId id = (id.sbn < 2 ^ 16) × (id.esi < 2 ^ 16)

-- transmission information whose fields are within their ranges, and that has no fault
abbrev pub IsInfo : Information → Type 0
IsInfo i = HasInfoFields i × (info_fault i ≡ None)

-- the bytes of a symbol: 1 to 65,535
pub record IsSymbol (bytes : List ℕ) : Type 0 where
  pub some : 0 < length bytes
  pub short : length bytes < 2 ^ 16
  pub octets : AllByRecursion IsByte bytes

-- a fact of a reception: its numbers are within their ranges
abbrev pub IsFact : Fact → Type 0
IsFact (Info key info) = IsKey key × IsInfo info
IsFact (InfoConflict key) = IsKey key
IsFact (Symbol key id bytes) = IsKey key × IsId id × IsSymbol bytes
IsFact (SymbolConflict key id) = IsKey key × IsId id
