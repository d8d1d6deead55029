-- A stream of facts that are in memory.
use Rattle.std.specs.Prelude.{◌≡◌, ◌+◌, List, [], ◌++◌, length, Option, None}
use Rattle.flute_parts.specs.Facts.{IsRising}
use Rattle.flute_parts.specs.declared.fact.Fact.{Fact}
use Rattle.flute_streams.specs.Streams.{Behaviour, option_list}

module _ {S : Type 0} (held : S → Option Fact) (rest : S → List Fact) (is_sound : S → Type 0) where
  -- since it was new it has given these facts; the others are the one held and those left
  pub record PassesListed (start now : S) (F : List Fact) : Type 0 where
    pub all : rest start ≡ F ++ (option_list (held now) ++ rest now)
    pub rising : IsRising (rest start)
    pub sound : is_sound start

  -- how a stream behaves that gives a list of facts
  abbrev pub listed_behaviour : Behaviour S
  listed_behaviour = record {
    held = held;
    spelled = λ s. [];
    most = λ s. length (option_list (held s)) + length (rest s);
    tells = λ s F. F ≡ rest s;
    knows = λ s F. F ≡ rest s;
    stops = λ s fault. ⊥;
    passes = PassesListed;
    reads = λ start now F. (more : List Fact) × (rest start ≡ F ++ more);
    fails = λ start now fault. fault ≡ None;
    ends = λ start now F. F ≡ rest start;
  }
