-- What the command `gaps` reports of each object.
use Rattle.std.specs.Prelude.{ℕ, List, [], ◌∷◌, ◌++◌, Option, Some, None, Contains, ◌↔◌}
use Rattle.std.specs.List.{flat_map}
use Rattle.std.specs.List.Sorted.{IsStrictlySortedBy}
use Rattle.flute_parts.specs.Information.{Information}
use Rattle.flute_parts.specs.Addresses.{info_address}
use Rattle.flute_parts.specs.Facts.{fact_at}
use Rattle.flute_parts.specs.Order.{key_cmp}
use Rattle.flute_parts.specs.declared.key.Key.{Key}
use Rattle.flute_parts.specs.declared.symbol_id.SymbolId.{SymbolId}
use Rattle.flute_parts.specs.declared.fact.Fact.{Fact}
use Rattle.flute_parts.specs.declared.fact.Fact.TheVariants.{Info}
use Rattle.flute_store.specs.declared.gap.Reason.{Reason}
use Rattle.flute_store.specs.declared.gap.Reason.TheVariants.{Missing, Conflicting, Misfit}
use Rattle.flute_store.specs.declared.gap.Gap.{Gap}
use Rattle.flute_store.specs.declared.status.Status.{Status}
use Rattle.flute_store.specs.declared.status.Status.TheVariants.{NoInformation}
use Rattle.flute_store.specs.declared.status.Status.TheVariants.{ConflictingInformation, Partial}
use Rattle.flute_store.specs.declared.status.Status.TheVariants.{Whole}
use Rattle.flute_store.specs.Objects.{wants, gaps, object}
use Rattle.flute_store.specs.Status.{how_many}
use Rattle.flute_store.specs.Held.{HoldsObject}
use Rattle.flutejoin.specs.Lines.{status_line, gap_line}
use Rattle.flutejoin.specs.declared.command_fault.CommandFault.{CommandFault}
use Rattle.flutejoin.specs.declared.command_fault.CommandFault.TheVariants.{CannotWrite}

-- how much is held of an object of which these symbols are wanted
abbrev pub status_wanting : Information → List (SymbolId × Reason) → Status
status_wanting info [] = Whole info.transfer_length
status_wanting info (w ∷ ws) =
    Partial (how_many Missing (w ∷ ws)) (how_many Conflicting (w ∷ ws))
    (how_many Misfit (w ∷ ws))

-- how much is held of an object of which something is, by the value at the address
-- of its information
abbrev pub status_at : List Fact → Key → Option Fact → Status
status_at F key None = NoInformation
status_at F key (Some (Info k info)) = status_wanting info (wants F key info)
status_at F key (Some f) = ConflictingInformation

-- its one information
abbrev pub info_at : Option Fact → Option Information
info_at (Some (Info k info)) = Some info
info_at o = None

-- its gaps, which only an object with one information has
abbrev pub gaps_at : List Fact → Key → Option Fact → List Gap
gaps_at F key (Some (Info k info)) = gaps F key info
gaps_at F key o = []

-- the bytes of an object of which these symbols are wanted, if it is whole
abbrev pub bytes_wanting : List Fact → Key → Information → List (SymbolId × Reason)
    → Option (List ℕ)
bytes_wanting F key info [] = Some (object F key info)
bytes_wanting F key info (w ∷ ws) = None

-- the bytes of an object with this fact as its information, if nothing of it is wanted
abbrev pub bytes_at : List Fact → Key → Option Fact → Option (List ℕ)
bytes_at F key (Some (Info k info)) = bytes_wanting F key info (wants F key info)
bytes_at F key o = None

-- a line for the object, and one for each of its gaps
unfoldable pub object_lines : List Fact → Key → List ℕ
object_lines F key =
    status_line key (status_at F key (fact_at F (info_address key)))
    ++ flat_map gap_line (gaps_at F key (fact_at F (info_address key)))

-- P holds of the lines of all objects of which something is held, in the order of their keys
pub record OfObjects (F : List Fact) (P : List ℕ → Type 0) : Type 0 where
  pub keys : List Key
  pub rising : IsStrictlySortedBy key_cmp keys
  pub held : (key : Key) → Contains keys key ↔ HoldsObject F key
  pub lines : P (flat_map (object_lines F) keys)

-- the only fault that is returned is a failed write, and then P holds
abbrev pub FailsToWrite : Type 0 → CommandFault → Type 0
FailsToWrite P CannotWrite = P
FailsToWrite P _ = ⊥
