-- The sessions that are taken.
use Rattle.std.specs.Prelude.{ℕ, List, Bool, ◌||◌, take, nat_eq, length}
use Rattle.std.specs.List.{list_any}
use Rattle.flute_streams.specs.declared.choice.sessions.Sessions.{Sessions}

-- the Transport Session Identifiers that are listed
abbrev pub listed_tsis : Sessions → List ℕ
listed_tsis sessions = take sessions.count sessions.tsis

-- an identifier is listed, or none is
abbrev pub takes : List ℕ → ℕ → Bool
takes tsis tsi = nat_eq (length tsis) 0 || list_any (λ listed_tsis. nat_eq listed_tsis tsi) tsis
