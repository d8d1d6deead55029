-- A stream and those of a list, and the streams of two lists.
use Rattle.std.specs.Prelude.{List, ◌∷◌, ◌++◌, map, take}
use Rattle.flute_streams.specs.declared.streams.either.Either.{Either}
use Rattle.flute_streams.specs.declared.streams.either.Either.TheVariants.{First, Second}

-- the stream, and then those of the list
abbrev pub chained : {A B : Type 0} → A → List B → List (Either A B)
chained first others = First first ∷ map Second others

-- the streams of the one list, and then those of the other
abbrev pub beside : {A B : Type 0} → List A → List B → List (Either A B)
beside firsts others = map First firsts ++ map Second others

-- those of a list that are taken
unfoldable pub taken : {B : Type 0} → List B → List B
taken others = take 65535 others
