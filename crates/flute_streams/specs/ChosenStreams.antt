-- A stream of which only some facts are taken.
use Rattle.std.specs.Prelude.{◌≡◌, ◌+◌, ◌<◌, ◌^◌, ℕ, Bool, false, not, List, filter, Option, Some}
use Rattle.std.specs.Prelude.{None}
use Rattle.std.specs.List.{count_by}
use Rattle.flute_parts.specs.declared.fact.Fact.{Fact}
use Rattle.flute_streams.specs.Streams.{Behaviour}
use Rattle.flute_streams.specs.declared.streams.chosen.Chosen.{Chosen}

-- P holds of some facts, and these are those of them that are taken (P is `So`)
abbrev pub OfAll : (Fact → Bool) → (List Fact → Type 0) → List Fact → Type 0
OfAll is_taken So facts = (all : List Fact) × So all × (facts ≡ filter is_taken all)

-- how many facts are not taken
abbrev pub others_of : (Fact → Bool) → List Fact → ℕ
others_of is_taken facts = count_by (λ f. not (is_taken f)) facts

module _ {C : Type 0} (takes : C → Fact → Bool) where
  -- what is held is not taken
  abbrev pub is_passed_over : C → Option Fact → Bool
  is_passed_over choice None = false
  is_passed_over choice (Some fact) = not (takes choice fact)

  -- of these facts, those that were passed over were counted, as far as 64 bits go
  abbrev pub CountsOthers : {S : Type 0} → Chosen S C → Chosen S C → List Fact → Type 0
  CountsOthers start now all =
      let others = others_of (takes start.choice) all in
      start.others + others < 2 ^ 64 → now.others ≡ start.others + others

  module _ {S : Type 0} (b : Behaviour S) where
    -- it has given these chosen facts, counted the others between, and holds none of those
    pub record PassesChosen (start now : Chosen S C) (facts : List Fact) : Type 0 where
      pub choice : now.choice ≡ start.choice
      pub passes : OfAll (takes start.choice)
          (λ all. b.passes start.stream now.stream all × CountsOthers start now all) facts
      pub holds : is_passed_over start.choice (b.held now.stream) ≡ false

    abbrev pub chosen_behaviour : Behaviour (Chosen S C)
    chosen_behaviour = record {
      held = λ c. b.held c.stream;
      spelled = λ c. b.spelled c.stream;
      most = λ c. b.most c.stream;
      tells = λ c facts. OfAll (takes c.choice) (b.tells c.stream) facts;
      knows = λ c facts. OfAll (takes c.choice) (b.knows c.stream) facts;
      stops = λ c fault. b.stops c.stream fault;
      passes = PassesChosen;
      reads = λ start now facts.
          OfAll (takes start.choice) (b.reads start.stream now.stream) facts;
      fails = λ start now fault. b.fails start.stream now.stream fault;
      ends = λ start now facts. OfAll (takes start.choice)
          (λ all. b.ends start.stream now.stream all × CountsOthers start now all) facts;
    }
