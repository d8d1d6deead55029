-- What a packet contains.
use Rattle.std.specs.Prelude.{ℕ, List, Option, Some, None}
use Rattle.flute_parts.specs.Session.{IsTsi}
use Rattle.flute_parts.specs.ObjectName.{IsObjectName}
use Rattle.flute_parts.specs.Information.{Information}
use Rattle.flute_parts.specs.declared.object_key.ObjectName.TheVariants.{Instance, File}
use Rattle.flute_parts.specs.declared.symbol_id.SymbolId.{SymbolId}

-- TSI, TOI, for TOI 0 the FDT Instance, the transmission information and the symbol with its bytes,
-- if there are any
pub record Content : Type 0 where
  pub tsi : ℕ
  pub toi : ℕ
  pub instance : Option ℕ
  pub info : Option Information
  pub symbol : Option (SymbolId × List ℕ)

-- the numbers name a session, and an FDT Instance or a file
abbrev pub HasKey : ℕ → ℕ → Option ℕ → Type 0
HasKey tsi toi None = IsTsi tsi × IsObjectName (File toi)
HasKey tsi toi (Some instance) = IsTsi tsi × IsObjectName (Instance instance)
