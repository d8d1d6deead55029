-- What replicas hold, and how much they may hold.
use Rattle.std.specs.Prelude.{ℕ, List}
use Rattle.flute_parts.specs.declared.fact.Fact.{Fact}
use Rattle.flute_parts.specs.Limits.{Over}

-- the facts of each replica, and the number of datagrams refused to it
pub record Held : Type 0 where
  pub contents : List (List Fact)
  pub refused : List ℕ

-- at most so many sessions, objects of a session and symbols of an object
pub record Capacity : Type 0 where
  pub sessions : ℕ
  pub objects : ℕ
  pub symbols : ℕ

abbrev pub capacity : ℕ → ℕ → ℕ → Capacity
capacity sessions objects symbols =
    record { sessions = sessions; objects = objects; symbols = symbols }

-- the facts name more than that
abbrev pub IsOver : List Fact → Capacity → Type 0
IsOver F c = Over F c.sessions c.objects c.symbols
