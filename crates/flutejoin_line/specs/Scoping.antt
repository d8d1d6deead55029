-- Which objects the options of a join take.
use Rattle.std.specs.Prelude.{◌≡◌, ◌⊎◌, ℕ, false, List, Some, None, codes}
use Rattle.clap.specs.Walk.{Row}
use Rattle.flute_streams.specs.Sessions.{listed_tsis}
use Rattle.flute_streams.specs.declared.choice.scope.Scope.{Scope}
use Rattle.flutejoin_line.specs.Options.{HasSessions, IsFlag, are_sessions, first_wrong, words}
use Rattle.flutejoin_line.specs.Selecting.{NamesObject, object_options}

-- the objects of the sessions, of the object name and of the kind that the options give
pub record IsScope (rows : List Row) (scope : Scope) : Type 0 where
  pub sessions : HasSessions rows (listed_tsis scope.sessions)
  pub object : NamesObject rows (Some scope.object)
  pub files : IsFlag (codes "no-fdt") rows scope.files

-- each number is one of its range
abbrev pub AreScopeNumbers : List Row → Type 0
AreScopeNumbers rows =
    ((tsis : List ℕ) × HasSessions rows tsis)
    × (first_wrong (object_options rows) rows ≡ None)

-- the option with this name is the first that is no number of its range
abbrev pub IsWrongOfScope : List Row → List ℕ → Type 0
IsWrongOfScope rows name =
    ((name ≡ codes "tsi") × (are_sessions (words (codes "tsi") rows) ≡ false))
    ⊎ (((tsis : List ℕ) × HasSessions rows tsis)
    × (first_wrong (object_options rows) rows ≡ Some name))
