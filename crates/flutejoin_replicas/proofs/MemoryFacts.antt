-- join_inputs: inputs in memory, joined (specs/Memory).
use Rattle.std.proofs.Common.{◌≡◌, ◌≢◌, ℕ, zero, suc, ◌+◌, ◌<◌, ◌≤◌, ◌^◌, List, [], ◌∷◌, ◌++◌}
use Rattle.std.proofs.Common.{length, Option, Some, inl, inr, refl, sym, ap, ◌∙◌, subst, arith}
use Rattle.std.proofs.Common.{Result, Ok, Err, is_ok, is_err, false, if◌then◌else◌}
use Rattle.std.specs.Prelude.{slice_get}
use Rattle.std.proofs.lemmas.Bool.{cases_eq}
use Rattle.std.proofs.lemmas.List.{length-append}
use Rattle.std.proofs.lemmas.Option.{slice_get_within}
use Rattle.std.specs.List.{flat_map}
use Rattle.flute_parts.specs.Facts.{Same}
use Rattle.flute_parts.specs.declared.fact.Fact.{Fact}
use Rattle.flute_journal.specs.Journal.{IsJournal, Journal}
use Rattle.flute_journal.specs.Stores.{IsJournalOf}
use Rattle.flute_journal.proofs.Public.{written_journal}
use Rattle.flute_journal.specs.declared.fault.ReadFault.{ReadFault}
use Rattle.flute_journal.specs.declared.fault.ReadFault.TheVariants.{Read}
use Rattle.flutejoin.specs.declared.command_fault.CommandFault.{CommandFault}
use Rattle.flutejoin.specs.declared.command_fault.CommandFault.TheVariants.{Input, UnknownKind}
use Rattle.flutejoin.specs.declared.command_fault.CommandFault.TheVariants.{Full, OutOfMemory}
use Rattle.flutejoin.specs.declared.limits.TheConstants.{MAX_SESSIONS, MAX_OBJECTS, MAX_SYMBOLS}
use Rattle.flutejoin.specs.declared.join.join_counts.JoinCounts.{JoinCounts}
use Rattle.flutejoin.specs.Joined.{Choice, content_facts}
use Rattle.flutejoin.specs.JoinFaults.{JoinFails}
use Rattle.flutejoin.specs.Joining.{JoinsTo}
use Rattle.flutejoin.specs.JoinFaults.{JoinToFails, of_inputs, of_source, of_sink, of_aside}
use Rattle.flutejoin_replicas.specs.Memory.{Joins, in_memory, MemoryFails}
use Rattle.flutejoin.specs.JoinInputs.{IsInput, AreInputs}
use Rattle.flutejoin.specs.declared.join.join_input.JoinInput.{JoinInput}
use Rattle.flutejoin.proofs.Public.{some_same}

pub pushed : {X T E : Type 0} (r : Result T E) (new old : List X) (x : X) → is_err r ≡ false
    → new ≡ (if is_ok r then old ++ x ∷ [] else old) → new ≡ old ++ x ∷ []
pushed (Ok t) new old x e h = h
pushed (Err f) new old x e h = absurd cc

last_or_before : {X : Type 0} (xs : List X) (x y : X) (j : ℕ)
    → slice_get (xs ++ x ∷ []) j ≡ Some y → j ≢ length xs → slice_get xs j ≡ Some y
last_or_before [] x y j e n =
    let within = slice_get_within (x ∷ []) j y e in absurd (n (omega (arith, within)))
last_or_before (z ∷ zs) x y zero e n = e
last_or_before (z ∷ zs) x y (suc j) e n =
    last_or_before zs x y j e (λ same. n (omega (arith, same)))

last_is : {X : Type 0} (xs : List X) (x y : X) → slice_get (xs ++ x ∷ []) (length xs) ≡ Some y
    → x ≡ y
last_is [] x y e = cc
last_is (z ∷ zs) x y e = last_is zs x y e

module _ {R : Type 0} (unread : R → Option (List ℕ)) where
  -- the first so many of these bytes were opened
  pub record OpenedSoFar (contents : List (List ℕ)) (inputs : List (JoinInput R))
      (k : ℕ) : Type 0 where
    pub as_many : length inputs ≡ k
    pub few : k ≤ length contents
    pub each : (j : ℕ) (input : JoinInput R) (bytes : List ℕ)
        → slice_get inputs j ≡ Some input → slice_get contents j ≡ Some bytes
        → IsInput unread input bytes

  pub none_opened : (contents : List (List ℕ)) (inputs : List (JoinInput R)) → inputs ≡ []
      → OpenedSoFar contents inputs 0
  none_opened contents inputs e = record {
    as_many = ap length e;
    few = omega arith;
    each = λ j input bytes is here.
        let within = slice_get_within inputs j input is in
        let none = ap length e in
        absurd (omega (arith, within, none));
  }

  pub one_opened : {contents : List (List ℕ)} {inputs : List (JoinInput R)} {k : ℕ}
      (new : List (JoinInput R)) (input : JoinInput R) (bytes : List ℕ)
      → OpenedSoFar contents inputs k → slice_get contents k ≡ Some bytes
      → new ≡ inputs ++ input ∷ [] → IsInput unread input bytes
      → OpenedSoFar contents new (k + 1)
  one_opened {contents} {inputs} {k} new input bytes h at e is = record {
    as_many = ap length e ∙ length-append inputs (input ∷ []) ∙ ap (λ n. n + 1) h.as_many;
    few = let within = slice_get_within contents k bytes at in omega (arith, within);
    each = λ j x bs was here.
        let there = sym (ap (λ l. slice_get l j) e) ∙ was in
        elim (cases_eq j k) [
          | inl same ↦
              let P : ℕ → Type 0 = λ i. slice_get (inputs ++ input ∷ []) i ≡ Some x in
              let Q : ℕ → Type 0 = λ i. slice_get contents i ≡ Some bs in
              rw (
                ← last_is inputs input x (subst P (same ∙ sym h.as_many) there),
                ← some_same (slice_get contents k) bytes bs at (subst Q same here),
              ) is
          | inr differs ↦ h.each j x bs
              (last_or_before inputs input x j there (λ same. differs (same ∙ h.as_many))) here
        ];
  }

  pub all_opened : {contents : List (List ℕ)} {inputs : List (JoinInput R)} {k : ℕ}
      → OpenedSoFar contents inputs k → length contents ≤ k → (ys : List (JoinInput R))
      → ys ≡ inputs → AreInputs unread ys contents
  all_opened {contents} {inputs} h past ys e =
      subst (λ l. AreInputs unread l contents) (sym e)
      (record { as_many = omega (arith, h.as_many, h.few, past); each = h.each })

-- the choice of all datagrams
module _ {choice : Choice} where
  pub memory_fails : (inputs : List (List ℕ)) (fault : CommandFault)
      → JoinToFails choice inputs fault → MemoryFails choice inputs (in_memory fault)
  memory_fails inputs fault (of_source number is first) = inl (ap in_memory is)
  memory_fails inputs fault (of_sink is all) = inl (ap in_memory is)
  memory_fails inputs fault (of_aside is wants) = inl (ap in_memory is)
  memory_fails inputs (UnknownKind number) (of_inputs h) = inr h
  memory_fails inputs (Input number f) (of_inputs h) = read f h
    where
      read : (f : ReadFault) → JoinFails choice inputs (Input number f)
          → MemoryFails choice inputs (in_memory (Input number f))
      read Read h = inl refl
      read f h = inr h
  memory_fails inputs Full (of_inputs h) = inr h
  memory_fails inputs OutOfMemory (of_inputs h) = inr h
  memory_fails inputs fault (of_inputs h) = absurd h

  -- reading the journal that was written gives the facts it was written of
  pub joins_of : {inputs : List (List ℕ)} {counts : JoinCounts} {bytes : List ℕ}
      {store : List Fact}
      → counts.entries < 2 ^ 64
      → ((bs : List ℕ) (F G : List Fact) → IsJournal bs F → IsJournal bs G → Same F G)
      → ((bs : List ℕ) (limit : ℕ) (F : List Fact) → limit < 2 ^ 64
      → IsJournalOf limit bs F → IsJournal bs F)
      → JoinsTo choice inputs counts (Some []) (Some bytes)
      → IsJournalOf counts.entries bytes store
      → Joins {s = MAX_SESSIONS} {o = MAX_OBJECTS} {y = MAX_SYMBOLS} choice inputs
      (record { store = store; datagrams = counts.datagrams; refused = counts.refused })
  joins_of {counts = counts} {bytes = bytes} {store = store} few one is_one h journal = record {
    told = h.told;
    tell = h.tell;
    content =
        one bytes store (flat_map (content_facts choice) h.told)
        (is_one bytes counts.entries store few journal)
        (written_journal bytes (flat_map (content_facts choice) h.told)
        (subst (λ l. Journal l (flat_map (content_facts choice) h.told)) (sym h.writes.appended)
        h.writes.journal));
    datagrams = h.datagrams;
    refused = h.refused;
  }
