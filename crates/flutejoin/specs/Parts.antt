-- Lists in the order of their sessions, cut into the part of each.
use Rattle.std.specs.Prelude.{List, [], ◌∷◌, if◌then◌else◌}
use Rattle.flute_parts.specs.Order.{same_session}
use Rattle.flute_parts.specs.Session.{Session}

module _ {T : Type 0} (session_in : T → Session) where
  -- one in front of others that are cut
  abbrev pub before_parts : T → List (T × List T) → List (T × List T)
  before_parts t [] = (t, []) ∷ []
  before_parts t ((u, us) ∷ parts) =
      if same_session (session_in t) (session_in u) then (t, u ∷ us) ∷ parts
      else ((t, []) ∷ (u, us) ∷ parts)

  -- the first of each session, with the others of it
  unfoldable pub parts_of : List T → List (T × List T)
  parts_of [] = []
  parts_of (t ∷ ts) = before_parts t (parts_of ts)
