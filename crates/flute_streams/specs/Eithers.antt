-- A stream of one kind or of another.
use Rattle.std.specs.Prelude.{ℕ, List, Option}
use Rattle.flute_parts.specs.declared.fact.Fact.{Fact}
use Rattle.flute_streams.specs.declared.streams.either.Either.{Either}
use Rattle.flute_streams.specs.declared.streams.either.Either.TheVariants.{First, Second}
use Rattle.flute_streams.specs.Streams.{Behaviour}

module _ {A B : Type 0} (a : Behaviour A) (b : Behaviour B) where
  -- what is said of either kind
  abbrev pub of_each : {X : Type 1} → (A → X) → (B → X) → Either A B → X
  of_each f g (First x) = f x
  of_each f g (Second y) = g y

  -- the fact at which a stream of either kind is
  abbrev pub held_either : Either A B → Option Fact
  held_either (First x) = a.held x
  held_either (Second y) = b.held y

  -- the bytes of that fact in the buffer of its source
  abbrev pub spelled_either : Either A B → List ℕ
  spelled_either (First x) = a.spelled x
  spelled_either (Second y) = b.spelled y

  -- how many facts a stream of either kind may still give
  abbrev pub most_either : Either A B → ℕ
  most_either (First x) = a.most x
  most_either (Second y) = b.most y

  -- what holds of two states of one kind
  abbrev pub both : {X : Type 0} → (A → A → X → Type 0) → (B → B → X → Type 0) → Either A B
      → Either A B → X → Type 0
  both P Q (First x) (First y) z = P x y z
  both P Q (Second x) (Second y) z = Q x y z
  both P Q _ _ z = ⊥

  -- how a stream of either kind behaves: as its own kind
  abbrev pub either_behaviour : Behaviour (Either A B)
  either_behaviour = record {
    held = held_either;
    spelled = spelled_either;
    most = most_either;
    tells = of_each a.tells b.tells;
    knows = of_each a.knows b.knows;
    stops = of_each a.stops b.stops;
    passes = both a.passes b.passes;
    reads = both a.reads b.reads;
    fails = both a.fails b.fails;
    ends = both a.ends b.ends;
  }
