-- The objects that are taken, of facts of two sessions.
use Rattle.std.specs.Prelude.{◌≡◌, ℕ, List, [], ◌∷◌, Bool, true, Some, refl}
use Rattle.flute_parts.specs.Session.{session}
use Rattle.flute_parts.specs.declared.fact.Fact.{Fact}
use Rattle.flute_parts.specs.declared.fact.Fact.TheVariants.{InfoConflict}
use Rattle.flute_parts.specs.declared.key.Key.{Key}
use Rattle.flute_parts.specs.declared.object_key.ObjectName.{ObjectName}
use Rattle.flute_parts.specs.declared.object_key.ObjectName.TheVariants.{File, Instance}
use Rattle.flute_streams.specs.Scopes.{chosen, others_in, takes_kind, takes_object}
use Rattle.flute_streams.specs.Sessions.{takes}

-- a fact of an object, by the sender and the Transport Session Identifier of its session
abbrev pub of_object : ℕ → ℕ → ObjectName → Fact
of_object sender tsi object =
    InfoConflict (record { session = session sender tsi; object = object })

-- facts of the sessions 7 and 8 of one sender, and of a session 7 of another
abbrev pub three : List Fact
three = of_object 0 7 (Instance 1) ∷ of_object 0 8 (File 1) ∷ of_object 1 7 (File 2) ∷ []

-- the objects of sessions with these identifiers
abbrev pub in_sessions : List ℕ → Key → Bool
in_sessions tsis key = takes tsis key.session.tsi

pub all_are_taken : chosen (in_sessions []) three ≡ three
all_are_taken = refl

pub one_is_taken :
    chosen (in_sessions (7 ∷ [])) three
    ≡ of_object 0 7 (Instance 1) ∷ of_object 1 7 (File 2) ∷ []
one_is_taken = refl

pub both_are_taken : chosen (in_sessions (8 ∷ 7 ∷ [])) three ≡ three
both_are_taken = refl

pub none_is_taken : chosen (in_sessions (9 ∷ [])) three ≡ []
none_is_taken = refl

pub no_others : others_in (in_sessions []) three ≡ 0
no_others = refl

pub one_other : others_in (in_sessions (7 ∷ [])) three ≡ 1
one_other = refl

-- the FDT Instance 1 is another object than the file 1
pub an_instance_is_taken :
    chosen (λ key. takes_object (Some (Instance 1)) key.object) three
    ≡ of_object 0 7 (Instance 1) ∷ []
an_instance_is_taken = refl

pub files_are_taken :
    chosen (λ key. takes_kind true key.object) three
    ≡ of_object 0 8 (File 1) ∷ of_object 1 7 (File 2) ∷ []
files_are_taken = refl
