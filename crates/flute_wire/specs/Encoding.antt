-- What the fields of a datagram that is written have room for.
use Rattle.std.specs.Prelude.{ℕ, List, Option, Some, None}
use Rattle.flute_parts.specs.Information.{Information, IsValid, HasInfoFields}
use Rattle.flute_parts.specs.Ranges.{IsId}
use Rattle.flute_parts.specs.declared.symbol_id.SymbolId.{SymbolId}
use Rattle.flute_wire.specs.Content.{Content, HasKey}

-- the ID of the symbol, if there is one, is within its range
abbrev pub HasFittingId : Option (SymbolId × List ℕ) → Type 0
HasFittingId None = Unit {0}
HasFittingId (Some s) = IsId s.0

-- the transmission information is valid, and fits the fields of EXT_FTI
abbrev pub HasFittingInformation : Option Information → Type 0
HasFittingInformation None = Unit {0}
HasFittingInformation (Some i) = IsValid i × HasInfoFields i

-- each number fits its field
pub record IsEncodable (c : Content) : Type 0 where
  pub key : HasKey c.tsi c.toi c.instance
  pub info : HasFittingInformation c.info
  pub symbol : HasFittingId c.symbol
