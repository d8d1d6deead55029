-- What is reported of objects: how much of each is held, its gaps, and its bytes.
use Rattle.std.specs.Prelude.{◌≡◌, ℕ, List, map, Contains, ◌↔◌, Option, if◌then◌else◌}
use Rattle.std.specs.List.{sum_by}
use Rattle.std.specs.List.Sorted.{IsStrictlySortedBy}
use Rattle.flute_parts.specs.Information.{Information}
use Rattle.flute_parts.specs.Addresses.{info_address}
use Rattle.flute_parts.specs.Facts.{fact_at}
use Rattle.flute_parts.specs.Order.{key_cmp, same_key}
use Rattle.flute_parts.specs.declared.key.Key.{Key}
use Rattle.flute_parts.specs.declared.fact.Fact.{Fact}
use Rattle.flute_parts.specs.declared.fact.Fact.TheVariants.{SymbolConflict}
use Rattle.flute_store.specs.declared.gap.Gap.{Gap}
use Rattle.flute_store.specs.declared.status.Status.{Status}
use Rattle.flute_store.specs.Held.{HoldsObject}
use Rattle.flutejoin.specs.Objects.{bytes_at, gaps_at, info_at, status_at}

-- what a walk tells of an object
pub record Told : Type 0 where
  pub key : Key
  pub status : Status
  -- its one information
  pub info : Option Information
  pub gaps : List Gap
  -- its bytes, if it is whole
  pub bytes : Option (List ℕ)
  -- how many of its symbols are in conflict, whether or not its partition has them
  pub conflicts : ℕ

-- a symbol of the object is in conflict
abbrev pub conflict_in : Key → Fact → ℕ
conflict_in key (SymbolConflict k id) = if same_key k key then 1 else 0
conflict_in key f = 0

-- how many are
abbrev pub conflicts_of : List Fact → Key → ℕ
conflicts_of F key = sum_by (conflict_in key) F

-- the report of an object of which facts hold something
abbrev pub told_of : List Fact → Key → Told
told_of F key = record {
  key = key;
  status = status_at F key (fact_at F (info_address key));
  info = info_at (fact_at F (info_address key));
  gaps = gaps_at F key (fact_at F (info_address key));
  bytes = bytes_at F key (fact_at F (info_address key));
  conflicts = conflicts_of F key;
}

-- these are the reports of all objects of which something is held, in the order of their keys
pub record AreTold (F : List Fact) (objects : List Told) : Type 0 where
  pub keys : List Key
  pub rising : IsStrictlySortedBy key_cmp keys
  pub held : (key : Key) → Contains keys key ↔ HoldsObject F key
  pub told : objects ≡ map (told_of F) keys
