-- How much of an object is held.
use Rattle.std.specs.Prelude.{◌≡◌, ◌≢◌, ℕ, ◌+◌, ◌<◌, ◌≤◌, ◌^◌}
use Rattle.std.specs.Prelude.{◌==◌, ◌&&◌, if◌then◌else◌, List, [], length, filter}
use Rattle.std.specs.Prelude.{Option, Some}
use Rattle.flute_parts.specs.Information.{Information}
use Rattle.flute_parts.specs.Addresses.{info_address}
use Rattle.flute_parts.specs.Facts.{fact_at}
use Rattle.flute_parts.specs.declared.key.Key.{Key}
use Rattle.flute_parts.specs.declared.symbol_id.SymbolId.{SymbolId}
use Rattle.flute_parts.specs.declared.fact.Fact.{Fact}
use Rattle.flute_parts.specs.declared.fact.Fact.TheVariants.{Info}
use Rattle.flute_store.specs.declared.gap.Reason.{Reason}
use Rattle.flute_store.specs.declared.gap.Reason.TheVariants.{Missing, Conflicting, Misfit}
use Rattle.flute_store.specs.declared.gap.Gap.{Gap}
use Rattle.flute_store.specs.declared.status.Status.{Status}
use Rattle.flute_store.specs.declared.status.Status.TheVariants.{NoInformation}
use Rattle.flute_store.specs.declared.status.Status.TheVariants.{ConflictingInformation, Partial}
use Rattle.flute_store.specs.declared.status.Status.TheVariants.{Whole as WholeObject}
use Rattle.flute_store.specs.declared.turn.Turn.{Turn}
use Rattle.flute_store.specs.declared.status.Wanted.{Wanted}
use Rattle.flute_store.specs.Objects.{Whole, wants, same_reason, listed}
use Rattle.flute_store.specs.GapAnswers.{LacksInformation, HasConflict}

-- how many of the wanted symbols are wanted for the reason
unfoldable pub how_many : Reason → List (SymbolId × Reason) → ℕ
how_many reason wanted = length (filter (λ w. same_reason reason w.1) wanted)

-- the counts of these wanted symbols, by reason
pub record IsCount (count : Wanted) (wanted : List (SymbolId × Reason)) : Type 0 where
  pub missing : count.missing ≡ how_many Missing wanted
  pub conflicting : count.conflicting ≡ how_many Conflicting wanted
  pub misfit : count.misfit ≡ how_many Misfit wanted

-- the counts after a gap's symbols are added
pub record Adds (gap : Gap) (old new : Wanted) : Type 0 where
  pub missing : new.missing ≡ old.missing + how_many Missing (listed gap)
  pub conflicting : new.conflicting ≡ old.conflicting + how_many Conflicting (listed gap)
  pub misfit : new.misfit ≡ old.misfit + how_many Misfit (listed gap)

-- a turn may give a gap, of at least one symbol, to counts that are not too large
abbrev pub CanAdd : Option Turn → Wanted → Type 0
CanAdd (Some (Turn.Gap gap)) old =
    (gap.first ≤ gap.last) × (old.missing + old.conflicting + old.misfit < 2 ^ 33)
CanAdd turn old = Unit {0}

-- the counts after a turn: a gap's symbols are added
abbrev pub AddsTurn : Option Turn → Wanted → Wanted → Type 0
AddsTurn (Some (Turn.Gap gap)) old new = Adds gap old new
AddsTurn turn old new = new ≡ old

-- how much is held of an object of so many bytes, of which so many symbols are wanted
abbrev pub status_of : Wanted → ℕ → Status
status_of count n =
    if (count.missing == 0) && ((count.conflicting == 0) && (count.misfit == 0)) then WholeObject n
    else Partial count.missing count.conflicting count.misfit

-- the object has this one information, and some symbols are wanted, so many for each reason
pub record IsPartial (F : List Fact) (key : Key) (missing conflicting misfit : ℕ) : Type 0 where
  pub info : Information
  pub information : fact_at F (info_address key) ≡ Some (Info key info)
  pub some : wants F key info ≢ []
  pub missing_are : missing ≡ how_many Missing (wants F key info)
  pub conflicting_are : conflicting ≡ how_many Conflicting (wants F key info)
  pub misfit_are : misfit ≡ how_many Misfit (wants F key info)

-- the status of an object is so of the facts
abbrev pub TellsStatus : List Fact → Key → Status → Type 0
TellsStatus F key NoInformation = LacksInformation F key
TellsStatus F key ConflictingInformation = HasConflict F key
TellsStatus F key (Partial missing conflicting misfit) = IsPartial F key missing conflicting misfit
TellsStatus F key (WholeObject length) =
    (info : Information) × Whole F key info × (length ≡ info.transfer_length)
