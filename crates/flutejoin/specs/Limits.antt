-- How many sessions, objects and symbols the commands take in.
use Rattle.std.specs.Prelude.{ℕ, ◌+◌, ◌*◌, ◌^◌, ◌≤◌, Bool, true, false, List}
use Rattle.flute_parts.specs.Limits.{Over}
use Rattle.flute_parts.specs.declared.fact.Fact.{Fact}
use Rattle.flute_journal.specs.Stores.{BeginsOver}
use Rattle.flutejoin.specs.declared.limits.TheConstants.{MAX_ENTRIES, MAX_SESSIONS, MAX_OBJECTS}
use Rattle.flutejoin.specs.declared.limits.TheConstants.{MAX_SYMBOLS, ANY_SESSIONS, ANY_OBJECTS}
use Rattle.flutejoin.specs.declared.limits.TheConstants.{ANY_SYMBOLS}

-- how many sessions, objects of a session and symbols of an object there may be
pub record Limits : Type 0 where
  pub sessions : ℕ
  pub objects : ℕ
  pub symbols : ℕ

-- limits of so many sessions, objects of a session, and symbols of an object
abbrev pub at_most : ℕ → ℕ → ℕ → Limits
at_most sessions objects symbols =
    record { sessions = sessions; objects = objects; symbols = symbols }

-- the limits of a store, or those of any size
abbrev pub limits_of : Bool → Limits
limits_of false = at_most MAX_SESSIONS MAX_OBJECTS MAX_SYMBOLS
limits_of true = at_most ANY_SESSIONS ANY_OBJECTS ANY_SYMBOLS

-- the facts name more
abbrev pub IsOver : Limits → List Fact → Type 0
IsOver most facts = Over facts most.sessions most.objects most.symbols

-- the bytes begin with entries that do
abbrev pub BeginsOverLimits : Limits → List ℕ → Type 0
BeginsOverLimits most bytes =
    BeginsOver most.sessions most.objects most.symbols MAX_ENTRIES bytes

-- there are fewer facts within them than a number of 64 bits counts
abbrev pub IsCountable : ℕ → ℕ → ℕ → Type 0
IsCountable sessions objects symbols = sessions * objects * (symbols + 1) ≤ 2 ^ 63
