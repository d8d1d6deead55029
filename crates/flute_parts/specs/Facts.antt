-- Lists of facts, and their value at an address.
use Rattle.std.specs.Prelude.{◌≡◌, Bool, false, ◌&&◌, ◌==◌, if◌then◌else◌, List}
use Rattle.std.specs.Prelude.{[], ◌∷◌, ◌++◌, filter, bytes_eq, Option, Some, None}
use Rattle.std.specs.Prelude.{Contains, ◌↔◌}
use Rattle.std.specs.List.{list_all}
use Rattle.std.specs.declared.cmp.Ordering.TheVariants.{Less}
use Rattle.flute_parts.specs.Information.{Information}
use Rattle.flute_parts.specs.declared.key.Key.{Key}
use Rattle.flute_parts.specs.declared.address.Part.{Part}
use Rattle.flute_parts.specs.declared.address.Part.TheVariants.{Info as InfoPart}
use Rattle.flute_parts.specs.declared.address.Part.TheVariants.{Symbol as SymbolPart}
use Rattle.flute_parts.specs.declared.address.Address.{Address}
use Rattle.flute_parts.specs.declared.fact.Fact.{Fact}
use Rattle.flute_parts.specs.declared.fact.Fact.TheVariants.{Info, InfoConflict, Symbol}
use Rattle.flute_parts.specs.declared.fact.Fact.TheVariants.{SymbolConflict}
use Rattle.flute_parts.specs.Order.{address_cmp, same_key, same_symbol_id, same_address}
use Rattle.flute_parts.specs.Addresses.{address}

-- the fact that two values came for a part of an object, and at an address
abbrev pub conflict_in : Key → Part → Fact
conflict_in key InfoPart = InfoConflict key
conflict_in key (SymbolPart id) = SymbolConflict key id

-- the fact that two values came for an address
abbrev pub conflict_at : Address → Fact
conflict_at a = conflict_in a.key a.part

-- all three numbers are the same (RFC 5445, 3.2.2.2)
abbrev pub same_information : Information → Information → Bool
same_information i j =
    (i.transfer_length == j.transfer_length)
    && ((i.symbol_length == j.symbol_length) && (i.max_block_length == j.max_block_length))

-- the facts have the same address and the same value
abbrev pub same_fact : Fact → Fact → Bool
same_fact (Info k i) (Info l j) = same_key k l && same_information i j
same_fact (InfoConflict k) (InfoConflict l) = same_key k l
same_fact (Symbol k i b) (Symbol l j c) = same_key k l && (same_symbol_id i j && bytes_eq b c)
same_fact (SymbolConflict k i) (SymbolConflict l j) = same_key k l && same_symbol_id i j
same_fact _ _ = false

-- the value of facts at one address: the one fact that all of them are, or else the conflict
abbrev pub agreed : Address → List Fact → Option Fact
agreed a [] = None
agreed a (f ∷ fs) = Some (if list_all (same_fact f) fs then f else conflict_at a)

-- the value of a list of facts at an address: `None` if none of them has that address
unfoldable pub fact_at : List Fact → Address → Option Fact
fact_at facts a = agreed a (filter (λ f. same_address (address f) a) facts)

-- the lists have the same value at each address
pub record Same (F G : List Fact) : Type 0 where
  pub each : (a : Address) → fact_at F a ≡ fact_at G a

-- the first list contains nothing more than the second
abbrev pub Below : List Fact → List Fact → Type 0
Below F G = Same (F ++ G) G

-- the lists have the same facts
abbrev pub SameMembers : List Fact → List Fact → Type 0
SameMembers F G = (f : Fact) → Contains F f ↔ Contains G f

-- each of the facts is after the address
abbrev pub StandAfter : Address → List Fact → Type 0
StandAfter a [] = Unit {0}
StandAfter a (f ∷ fs) = (address_cmp a (address f) ≡ Less) × StandAfter a fs

-- the addresses rise strictly: all facts that follow a fact are after it
abbrev pub IsRising : List Fact → Type 0
IsRising [] = Unit {0}
IsRising (f ∷ fs) = StandAfter (address f) fs × IsRising fs
