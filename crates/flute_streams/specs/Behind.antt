-- Facts before an address, and before what a stream holds.
use Rattle.std.specs.Prelude.{◌≡◌, ◌⊎◌, List, [], ◌∷◌, Option, Some, None}
use Rattle.std.specs.declared.cmp.Ordering.TheVariants.{Less}
use Rattle.flute_parts.specs.Addresses.{address}
use Rattle.flute_parts.specs.Order.{address_cmp}
use Rattle.flute_parts.specs.declared.address.Address.{Address}
use Rattle.flute_parts.specs.declared.fact.Fact.{Fact}

-- each of the facts is before the address
abbrev pub StandBefore : Address → List Fact → Type 0
StandBefore a [] = Unit {0}
StandBefore a (f ∷ facts) = (address_cmp (address f) a ≡ Less) × StandBefore a facts

-- each of the facts is before the one that is held
abbrev pub Behind : Option Fact → List Fact → Type 0
Behind None facts = Unit {0}
Behind (Some f) facts = StandBefore (address f) facts

-- each of the facts is before the one that is held, or at its address
abbrev pub UpTo : Option Fact → List Fact → Type 0
UpTo None facts = Unit {0}
UpTo (Some g) [] = Unit {0}
UpTo (Some g) (f ∷ facts) =
    ((address_cmp (address f) (address g) ≡ Less) ⊎ (address f ≡ address g)) × UpTo (Some g) facts
