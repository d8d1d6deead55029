-- join_of: the line of a join, and why there is none (specs/CommandLine).
use Rattle.std.proofs.Common.{◌≡◌, ◌<◌, ◌≤◌, ℕ, List, length, map, Bor, Option, None, false, inl, inr, ap, ◌∙◌}
use Rattle.std.proofs.Common.{codes, Bool, ◌++◌, option_map, subst}
use Rattle.std.specs.Prelude.{Some, is_some}
use Rattle.std.proofs.lemmas.List.{length-map}
use Rattle.clap.specs.Walk.{Row, first_of}
use Rattle.flute_parts.specs.declared.object_key.ObjectName.{ObjectName}
use Rattle.flute_streams.specs.Sessions.{listed_tsis}
use Rattle.flute_streams.specs.declared.choice.scope.Scope.{Scope}
use Rattle.flute_streams.specs.declared.choice.sessions.Sessions.{Sessions}
use Rattle.flutejoin_line.specs.CommandLine.{join_words, without_words}
use Rattle.flutejoin_line.specs.Inputs.{IsTwice, is_standard_twice, word_if}
use Rattle.flutejoin_line.specs.LineFaults.{AreJoinNumbers, IsInputsFault, IsJoinFault}
use Rattle.flutejoin_line.specs.Options.{HasSessions, HasSource, IsBadNumber, IsFlag, IsInstance}
use Rattle.flutejoin_line.specs.Options.{IsToi}
use Rattle.flutejoin_line.specs.Options.{are_sessions, words}
use Rattle.flutejoin_line.specs.Scoping.{AreScopeNumbers, IsScope}
use Rattle.flutejoin_line.specs.Selecting.{object_of}
use Rattle.flutejoin_line.specs.Sizes.{memory_in}
use Rattle.flutejoin.specs.declared.command_fault.CommandFault.{CommandFault}
use Rattle.flutejoin.specs.declared.command_fault.CommandFault.TheVariants.{BadNumber, BadSource}
use Rattle.flutejoin.specs.declared.command_fault.CommandFault.TheVariants.{BadKey, OutOfMemory}
use Rattle.flutejoin.specs.declared.command_fault.CommandFault.TheVariants.{StandardInputTwice}
use Rattle.flutejoin.specs.declared.command_fault.CommandFault.TheVariants.{TooManyInputs}
use Rattle.flutejoin_line.proofs.Selecting.{IsNumbersFault, right_numbers}

module _ (rows : List Row) where
  pub wrong_sessions : (fault : CommandFault) → IsBadNumber (codes "tsi") fault
      → are_sessions (words (codes "tsi") rows) ≡ false → IsJoinFault rows fault
  wrong_sessions (BadNumber name) is wrong = inl (inl (is, wrong))
  wrong_sessions _ is wrong = absurd is

  module _ (sessions : (tsis : List ℕ) × HasSessions rows tsis) where
    pub wrong_object : (fault : CommandFault) → IsNumbersFault rows fault → IsJoinFault rows fault
    wrong_object (BadNumber name) wrong = inl (inr (sessions, wrong))
    wrong_object _ wrong = absurd wrong

    module _ (toi instance : Option ℕ) (is_toi : IsToi rows toi)
        (is_instance : IsInstance rows instance) where
      chosen : AreScopeNumbers rows
      chosen = (sessions, right_numbers rows toi instance is_toi is_instance)

      right : {memory : ℕ} → memory_in rows ≡ Some memory → AreJoinNumbers rows
      right held = (chosen, ap is_some held)

      pub wrong_memory : (fault : CommandFault) → IsBadNumber (codes "memory") fault
          → memory_in rows ≡ None → IsJoinFault rows fault
      wrong_memory (BadNumber name) is wrong = inr (chosen, is, wrong)
      wrong_memory _ is wrong = absurd is

      pub wrong_sender : {memory : ℕ} → memory_in rows ≡ Some memory
          → ((sender : ℕ) → HasSource rows sender → ⊥) → IsJoinFault rows BadSource
      wrong_sender held none = (right held, none)

      pub wrong_key : {memory : ℕ} → memory_in rows ≡ Some memory
          → ((sender : ℕ) × HasSource rows sender)
          → object_of toi instance ≡ None → IsJoinFault rows BadKey
      wrong_key held from none = (
        right held,
        from,
        record {
          toi = toi;
          instance = instance;
          is_toi = is_toi;
          is_instance = is_instance;
          named = none;
        },
      )

  module _ (toi instance : Option ℕ) (is_toi : IsToi rows toi)
      (is_instance : IsInstance rows instance) where
    pub right_scope : (sessions : Sessions) (object : Option ObjectName) (files : Bool)
        → HasSessions rows (listed_tsis sessions) → object_of toi instance ≡ Some object
        → IsFlag (codes "no-fdt") rows files
        → IsScope rows (record { sessions = sessions; object = object; files = files })
    right_scope sessions object files are named is = record {
      sessions = are;
      object = record {
        toi = toi;
        instance = instance;
        is_toi = is_toi;
        is_instance = is_instance;
        named = named;
      };
      files = is;
    }

module _ (rows : List Row) (list : Option (Bor (List ℕ)))
    (listed : option_map (λ (w : Bor (List ℕ)). w.now) list ≡ first_of (codes "without") rows)
    (inputs : List (Bor (List ℕ)))
    (are : map (λ (w : Bor (List ℕ)). w.now) inputs ≡ words (codes "INPUT") rows) where
  abbrev first : List (List ℕ)
  first = word_if (option_map (λ (w : Bor (List ℕ)). w.now) list)

  abbrev texts : List (List ℕ)
  texts = map (λ (w : Bor (List ℕ)). w.now) inputs

  as_many : length texts ≡ length inputs
  as_many = length-map inputs (λ (w : Bor (List ℕ)). w.now)

  pub too_many : 64 < length inputs → IsInputsFault first texts TooManyInputs
  too_many many = rw as_many many

  pub twice : (fault : CommandFault) → length inputs ≤ 64
      → IsTwice (first ++ texts) fault → IsInputsFault first texts fault
  twice StandardInputTwice few is = (rw as_many few, is)
  twice _ few is = absurd is

  pub no_memory : length inputs ≤ 64 → is_standard_twice (first ++ texts) ≡ false
      → IsInputsFault first texts OutOfMemory
  no_memory few once = (rw as_many few, once)

  pub once_of_all : is_standard_twice (first ++ texts) ≡ false
      → is_standard_twice (join_words rows) ≡ false
  once_of_all once =
      subst (λ ws. is_standard_twice (without_words rows ++ ws) ≡ false) are
      (subst (λ o. is_standard_twice (word_if o ++ texts) ≡ false) listed once)

  -- the inputs of a join are at fault, or there is no memory for them
  pub not_joined : {scope : Scope} {memory : ℕ} (fault : CommandFault) → IsScope rows scope
      → memory_in rows ≡ Some memory → ((sender : ℕ) × HasSource rows sender)
      → IsInputsFault first texts fault → IsJoinFault rows fault
  not_joined {scope = scope} fault taken held from why =
      go fault (subst (λ ws. IsInputsFault (without_words rows) ws fault) are
      (subst (λ o. IsInputsFault (word_if o) texts fault) listed why))
    where
      go : (f : CommandFault) → IsInputsFault (without_words rows) (words (codes "INPUT") rows) f
          → IsJoinFault rows f
      go (BadNumber option) h = absurd h
      go BadSource h = absurd h
      go BadKey h = absurd h
      go f h = (
        record {
          scope = scope;
          is_scope = taken;
          memory = ap is_some held;
          sender = from.0;
          is_sender = from.1;
        },
        h,
      )

  pub inputs_taken : (taken : List (Bor (List ℕ))) → taken ≡ inputs
      → map (λ (w : Bor (List ℕ)). w.now) taken ≡ words (codes "INPUT") rows
  inputs_taken taken is = ap (map (λ (w : Bor (List ℕ)). w.now)) is ∙ are
