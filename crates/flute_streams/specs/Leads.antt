-- A stream that holds a fact below those of all others.
use Rattle.std.specs.Prelude.{◌≡◌, ◌≢◌, ℕ, List, Option, Some, None, slice_get, if◌then◌else◌}
use Rattle.std.specs.Ordering.{is_lt}
use Rattle.std.specs.declared.cmp.Ordering.TheVariants.{Greater, Less}
use Rattle.flute_parts.specs.Order.{address_cmp}
use Rattle.flute_parts.specs.declared.address.Address.{Address}
use Rattle.flute_streams.specs.Streams.{Behaviour, address_of}

-- there is a place, below that address, if there is one
abbrev pub IsBelowNext : Option Address → Option Address → Type 0
IsBelowNext None next = ⊥
IsBelowNext (Some p) None = Unit {0}
IsBelowNext (Some p) (Some a) = address_cmp p a ≡ Less

-- there is no place before that address, and none at all if there is none
abbrev pub NoneBefore : Option Address → Option Address → Type 0
NoneBefore next None = Unit {0}
NoneBefore None (Some p) = ⊥
NoneBefore (Some a) (Some p) = address_cmp a p ≢ Greater

module _ {S : Type 0} (b : Behaviour S) where
  -- the stream with that number holds a fact below `next`, and no other one holds
  -- a fact before that
  pub record Leads (streams : List S) (number : ℕ) (next : Option Address) : Type 0 where
    pub stream : S
    pub is : slice_get streams number ≡ Some stream
    pub below : IsBelowNext (address_of (b.held stream)) next
    pub others : (k : ℕ) (s : S) → slice_get streams k ≡ Some s → k ≢ number
        → NoneBefore next (address_of (b.held s))

  -- the stream that leads is at that place
  abbrev pub StandsAt : Option Address → List S → ℕ → Type 0
  StandsAt place streams number =
      (s : S) → slice_get streams number ≡ Some s → address_of (b.held s) ≡ place

-- the lower of two addresses, of which there may be one only
abbrev pub lower_of : Option Address → Address → Address
lower_of None second = second
lower_of (Some first) second = if is_lt (address_cmp first second) then first else second

-- of two addresses there may be one only, or none
abbrev pub lower_next : Option Address → Option Address → Option Address
lower_next next None = next
lower_next next (Some p) = Some (lower_of next p)
