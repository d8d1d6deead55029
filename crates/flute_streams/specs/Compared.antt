-- How two lists of facts differ, object by object.
use Rattle.std.specs.Prelude.{◌≡◌, ℕ, Bool, true, false, not, ◌&&◌, ◌||◌, ◌==◌, List, [], ◌∷◌}
use Rattle.std.specs.Prelude.{map, Option, Some, None, if◌then◌else◌}
use Rattle.std.specs.List.{count_by, list_any}
use Rattle.std.specs.declared.cmp.Ordering.TheVariants.{Less}
use Rattle.flute_parts.specs.Addresses.{address, info_address}
use Rattle.flute_parts.specs.Facts.{fact_at, same_fact}
use Rattle.flute_parts.specs.Order.{key_cmp, same_key}
use Rattle.flute_parts.specs.declared.address.Address.{Address}
use Rattle.flute_parts.specs.declared.fact.Fact.{Fact}
use Rattle.flute_parts.specs.declared.key.Key.{Key}
use Rattle.flute_streams.specs.Selections.{is_info}
use Rattle.flute_streams.specs.declared.merge.sides.Row.{Row}
use Rattle.flute_streams.specs.declared.merge.sides.Side.{Side}
use Rattle.flute_streams.specs.declared.merge.sides.Side.TheVariants.{Same, Differ, First, Second}
use Rattle.flute_streams.specs.declared.merge.sides.Sides.{Sides}

-- which side has a fact at an address, if one has
abbrev pub side_at : Option Fact → Option Fact → Option Side
side_at None None = None
side_at (Some f) None = Some First
side_at None (Some g) = Some Second
side_at (Some f) (Some g) = Some (if same_fact f g then Same else Differ)

-- what the others have at the address of a fact: the same, or not, or nothing
abbrev pub is_alike : Option Fact → Fact → Bool
is_alike None f = false
is_alike (Some g) f = same_fact f g

-- whether the other side has another value there
abbrev pub is_other : Option Fact → Fact → Bool
is_other None f = false
is_other (Some g) f = not (same_fact f g)

-- whether the other side has nothing there
abbrev pub is_lone : Option Fact → Fact → Bool
is_lone None f = true
is_lone (Some g) f = false

-- how many facts at such addresses have, with what the others have there, this property
abbrev pub tally : (Address → Bool) → (Option Fact → Fact → Bool) → List Fact → List Fact → ℕ
tally q r facts others = count_by (λ f. q (address f) && r (fact_at others (address f)) f) facts

-- in how many of these addresses the sides have the same, differ, or one alone has a value
abbrev pub sides_of : (Address → Bool) → List Fact → List Fact → Sides
sides_of q facts others = record {
  same = tally q is_alike facts others;
  differ = tally q is_other facts others;
  first = tally q is_lone facts others;
  second = tally q is_lone others facts;
}

-- where the symbols of an object are
abbrev pub is_symbol_of : Key → Address → Bool
is_symbol_of key a = same_key key a.key && not (is_info a.part)

-- what is told of an object
abbrev pub row_of : List Fact → List Fact → Key → Row
row_of facts others key = record {
  key = key;
  information = side_at (fact_at facts (info_address key)) (fact_at others (info_address key));
  symbols = sides_of (is_symbol_of key) facts others;
}

-- both have its information, and not the same; or both have a symbol, and not the same
abbrev pub is_apart : Option Side → Bool
is_apart (Some Differ) = true
is_apart side = false

-- whether a row says that a value differs
abbrev pub differs : Row → Bool
differs row = is_apart row.information || not (row.symbols.differ == 0)

-- an object is one of these, or one that facts name
abbrev pub is_listed : Key → List Key → Bool
is_listed key keys = list_any (λ k. same_key key k) keys

-- whether a fact is of this object
abbrev pub is_named : Key → List Fact → Bool
is_named key facts = list_any (λ f. same_key key (address f).key) facts

-- the keys rise strictly
abbrev pub KeysAfter : Key → List Key → Type 0
KeysAfter key [] = Unit {0}
KeysAfter key (k ∷ keys) = (key_cmp key k ≡ Less) × KeysAfter key keys

-- each key is after all before it
abbrev pub KeysRise : List Key → Type 0
KeysRise [] = Unit {0}
KeysRise (key ∷ keys) = KeysAfter key keys × KeysRise keys

-- the rows are those of all objects that the facts or the others name, in their order
pub record AreRows (facts others : List Fact) (rows : List Row) : Type 0 where
  pub keys : List Key
  pub rise : KeysRise keys
  pub all : (key : Key) → is_listed key keys ≡ (is_named key facts || is_named key others)
  pub are : rows ≡ map (row_of facts others) keys
