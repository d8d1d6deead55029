-- What is written of an object.
use Rattle.std.specs.Prelude.{◌≡◌, ℕ, List, ◌∷◌, length, Option, Some, Result, Ok, Err}
use Rattle.std.specs.Io.KnownBytes.{Appends}
use Rattle.flute_parts.specs.Information.{Information}
use Rattle.flute_parts.specs.Addresses.{info_address}
use Rattle.flute_parts.specs.Facts.{fact_at}
use Rattle.flute_parts.specs.Partition.{symbol_id}
use Rattle.flute_parts.specs.Devices.{AppendsPart}
use Rattle.flute_parts.specs.declared.key.Key.{Key}
use Rattle.flute_parts.specs.declared.symbol_id.SymbolId.{SymbolId}
use Rattle.flute_parts.specs.declared.fact.Fact.{Fact}
use Rattle.flute_parts.specs.declared.fact.Fact.TheVariants.{Info}
use Rattle.flute_store.specs.declared.gap.Gap.{Gap}
use Rattle.flute_store.specs.declared.extract.ExtractFault.{ExtractFault}
use Rattle.flute_store.specs.declared.extract.ExtractFault.TheVariants.{NoObject, NoInformation}
use Rattle.flute_store.specs.declared.extract.ExtractFault.TheVariants.{ConflictingInformation}
use Rattle.flute_store.specs.declared.extract.ExtractFault.TheVariants.{NotWhole, Write}
use Rattle.flute_store.specs.Objects.{Whole, object, gaps}
use Rattle.flute_store.specs.Found.{IsUnheard}
use Rattle.flute_store.specs.GapAnswers.{LacksInformation, HasConflict}

-- the object has this one information and a gap, the first of which begins with the symbol
pub record IsNotWhole (F : List Fact) (key : Key) (first : SymbolId) : Type 0 where
  pub info : Information
  pub information : fact_at F (info_address key) ≡ Some (Info key info)
  pub gap : Gap
  pub others : List Gap
  pub gaps_are : gaps F key info ≡ gap ∷ others
  pub first_is : first ≡ symbol_id gap.sbn gap.first

module _ {W : Type 0} (written : W → Option (List ℕ)) (F : List Fact) (key : Key)
    (old new : W) where
  -- the object is whole and was written: n bytes, as many as the transfer length says
  pub record WritesWhole (n : ℕ) : Type 0 where
    pub info : Information
    pub whole : Whole F key info
    pub bytes : Appends (written old) (written new) (object F key info)
    pub length_is : n ≡ info.transfer_length
    pub exact : length (object F key info) ≡ n

  -- the object is whole, and a proper prefix of it was written
  pub record WritesPart : Type 0 where
    pub info : Information
    pub whole : Whole F key info
    pub bytes : AppendsPart (written old) (written new) (object F key info)

  -- the sink is as before, unless it failed
  abbrev pub TellsExtractFault : ExtractFault → Type 0
  TellsExtractFault NoObject = IsUnheard F key × (new ≡ old)
  TellsExtractFault NoInformation = LacksInformation F key × (new ≡ old)
  TellsExtractFault ConflictingInformation = HasConflict F key × (new ≡ old)
  TellsExtractFault (NotWhole first) = IsNotWhole F key first × (new ≡ old)
  TellsExtractFault Write = WritesPart

  -- the result of `extract`: the length of a whole object that was written, or why not
  abbrev pub Extracts : Result ℕ ExtractFault → Type 0
  Extracts (Ok n) = WritesWhole n
  Extracts (Err fault) = TellsExtractFault fault

-- how often the sink failed
abbrev pub failed : Result ℕ ExtractFault → ℕ
failed (Err Write) = 1
failed _ = 0
