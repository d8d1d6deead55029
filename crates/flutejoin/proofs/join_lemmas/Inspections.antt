-- inspect_all: inputs that are inspected one after the other (specs/JoinParts).
use Rattle.std.proofs.Common.{rules}
use Rattle.std.proofs.Common.{◌≡◌, ℕ, zero, suc, ◌+◌, ◌*◌, ◌<◌, ◌≤◌, List}
use Rattle.std.proofs.Common.{[], ◌∷◌, ◌++◌, length, take}
use Rattle.std.proofs.Common.{append-nil, append_assoc, Option, Some, Err, inl, refl, sym, ap}
use Rattle.std.proofs.Common.{◌∙◌, arith, Bool, true}
use Rattle.std.proofs.Math.ListN.{set}
use Rattle.std.specs.Prelude.{slice_get}
use Rattle.std.specs.List.{AllByRecursion}
use Rattle.std.proofs.lemmas.Bool.{cases_eq}
use Rattle.std.proofs.lemmas.List.{length-set, take_all}
use Rattle.std.proofs.lemmas.Option.{slice_get_within}
use Rattle.flute_journal.specs.Kinds.{HasKind, IsNeither}
use Rattle.flute_journal.specs.declared.kind.Kind.{Kind}
use Rattle.flute_journal.specs.declared.kind.Kind.TheVariants as kinds
use Rattle.flute_journal.specs.declared.fault.ReadFault.TheVariants.{Read}
use Rattle.flutejoin.specs.declared.command_fault.CommandFault.{CommandFault}
use Rattle.flutejoin.specs.declared.command_fault.CommandFault.TheVariants.{Input}
use Rattle.flutejoin.specs.declared.command_fault.CommandFault.TheVariants.{CannotWrite}
use Rattle.flutejoin.specs.declared.join.held_files.HeldFiles.{HeldFiles}
use Rattle.flutejoin.specs.declared.join.join_input.JoinInput.{JoinInput}
use Rattle.flutejoin.specs.declared.join.join_input.JoinInput.TheVariants.{Journal, Datagrams}
use Rattle.flutejoin.specs.declared.join.join_input.JoinInput.TheVariants.{Unknown}
use Rattle.flutejoin.specs.JoinInputs.{IsInput, AreInputs}
use Rattle.flutejoin.specs.InputStreams.{failures_of, NoneFailed, OneFailed}
use Rattle.flutejoin.specs.Joined.{Choice}
use Rattle.flutejoin.specs.JoinFaults.{HasKnownKind, WantsAside}
use Rattle.flutejoin.specs.JoinParts.{HoldsDatagrams, HoldsMore}
use Rattle.flutejoin.specs.JoinParts.{IsSound, CountsUpTo}
use Rattle.flutejoin.specs.JoinParts.{NamesOnly, InspectionFails, SomeInspectionFails}
use Rattle.flutejoin.specs.JoinFaults.{NamesOneOf}
use Rattle.flutejoin.specs.JoinParts.{IsInspected, AreInspected, Finds, IsReady}
use Rattle.flutejoin.specs.Show.{FailsToRead}
use Rattle.flutejoin.proofs.Slots.{slice_get-set_other, slice_get-set_same, some_same}
use Rattle.flutejoin.proofs.Firsts.{at_place, first_after, first_at}
use Rattle.flutejoin.proofs.join_lemmas.Held.{all_held}

pub same_kind : (kind : Kind) (xs ys : List ℕ) → take 4 xs ≡ take 4 ys → HasKind kind xs
    → HasKind kind ys
same_kind kinds.Journal xs ys e h = sym e ∙ h
same_kind kinds.Datagrams xs ys e h = sym e ∙ h

pub same_neither : (xs ys : List ℕ) → take 4 xs ≡ take 4 ys → IsNeither xs → IsNeither ys
same_neither xs ys e h = search rules

pub one_is : {X : Type 0} (xs : List X) (k : ℕ) (x y : X) → slice_get xs k ≡ Some x
    → slice_get xs k ≡ Some y → x ≡ y
one_is xs k x y e h = some_same _ x y e h

pub inspect_reads : (k : ℕ) (fault : CommandFault) → NamesOnly (k + 1) fault
    → fault ≡ CannotWrite → ⊥
inspect_reads k fault names e = search rules

-- if P holds of the first k, and of a new element k, then it holds of the first k + 1
all_more : {X : Type 0} (P : X → Type 0) {x : X} (new : X) (k : ℕ) (xs : List X) → slice_get xs k ≡
    Some x → AllByRecursion P (take k xs) → P new → AllByRecursion P (take (suc k) (set xs k new))
all_more P {x} new k [] at h p = search rules
all_more P _ zero (y ∷ xs) at h p = (p, tt)
all_more P new (suc k) (y ∷ xs) at h p = (h.0, all_more P _ k xs at h.1 p)

module _ (choice : Choice) {R : Type 0} (unread : R → Option (List ℕ)) (buffered : R → List ℕ) where
  -- an input that was inspected is of a known kind
  is_known : (input : JoinInput R) (bytes : List ℕ) (datagrams : List (List ℕ))
      → IsInspected unread buffered choice input bytes datagrams → HasKnownKind bytes
  is_known = search rules

  pub all_known : (xs : List (JoinInput R)) (contents datagrams : List (List ℕ)) → AreInspected
      unread buffered choice xs contents datagrams → AllByRecursion HasKnownKind contents
  all_known [] [] _ h = tt
  all_known (x ∷ xs) (bytes ∷ contents) _ h = (is_known x _ _ h.2, all_known xs contents _ h.4)
  all_known [] (bytes ∷ contents) _ h = absurd h
  all_known (x ∷ xs) [] _ h = absurd h

  -- an input is a datagram file if there are datagrams
  wants_aside : (xs : List (JoinInput R)) (contents datagrams : List (List ℕ)) → AreInspected unread
      buffered choice xs contents datagrams → 0 < length datagrams → WantsAside contents
  wants_aside [] [] datagrams h some =
      let none = ap length h in absurd (omega arith)
  wants_aside (Journal journal ∷ xs) (bytes ∷ contents) datagrams h some =
      let others = h.3 ∙ ap (λ own. own ++ h.1) h.2.0 in
      let rest = wants_aside xs contents _ h.4 (rw (← others) some) in
      (rest.0 + 1, first_after _ (inl h.2.1) rest.1)
  wants_aside (Datagrams source ∷ xs) (bytes ∷ contents) _ h _ = (
    1,
    record {
      before = [];
      bytes = bytes;
      after = contents;
      split = refl;
      number_is = refl;
      earlier = tt;
      here = cc;
    },
  )
  wants_aside (Unknown ∷ xs) (bytes ∷ contents) _ h _ = absurd h.2
  wants_aside [] (bytes ∷ contents) _ h _ = absurd h
  wants_aside (x ∷ xs) [] _ h _ = absurd h

  pub finds_wants : {s o y : ℕ} (held : HeldFiles s o y R) (xs : List (JoinInput R))
      (contents : List (List ℕ)) → Finds unread buffered choice xs contents held → held.fits ≡ true
      → 0 < held.told.datagrams → WantsAside contents
  finds_wants held xs contents found fits some = search (rules, all_held, wants_aside)

  -- one input more was inspected
  module _ {x : JoinInput R} (new : JoinInput R) {bytes : List ℕ} (own : List (List ℕ))
      (one : IsInspected unread buffered choice new bytes own) where
    one_more : (k : ℕ) (xs : List (JoinInput R)) (contents datagrams : List (List ℕ)) → slice_get xs
        k ≡ Some x → slice_get contents k ≡ Some bytes → AreInspected unread buffered choice
        (take k xs) (take k contents) datagrams → AreInspected unread buffered choice
        (take (suc k) (set xs k new)) (take (suc k) contents) (datagrams ++ own)
    one_more k [] contents datagrams at here h =
        let within = slice_get_within [] k x at in absurd (omega arith)
    one_more k (y ∷ xs) [] datagrams at here h =
        let within = slice_get_within [] k _ here in absurd (omega arith)
    one_more zero (y ∷ xs) (c ∷ contents) datagrams at here h =
        let same : bytes ≡ c = cc in
        (own, [], rw (← same) one, cc (append-nil own), refl)
    one_more (suc k) (y ∷ xs) (c ∷ contents) _ at here h = (
      h.0,
      h.1 ++ own,
      h.2,
      cc
          (append_assoc h.0 h.1 own),
      one_more k xs contents _ at here h.4,
    )

  module _ (failures : R → ℕ) where
    -- the first k inputs were inspected, and the others are unchanged
    pub record InspectedSoFar {s o y : ℕ} (told : Bool) (start now : List (JoinInput R))
        (held : HeldFiles s o y R) (k : ℕ) : Type 0 where
      pub as_many : length now ≡ length start
      pub later : (j : ℕ) → k ≤ j → slice_get now j ≡ slice_get start j
      pub ready : AllByRecursion (IsReady unread buffered failures) (take k now)
      pub finds : told ≡ true → (contents : List (List ℕ)) → AreInputs unread start contents
          → Finds unread buffered choice (take k now) (take k contents) held
      pub few : held.told.datagrams ≤ k * 16777216
      pub sound : IsSound unread buffered failures held
      pub none_failed : NoneFailed failures start now

module _ {choice : Choice} {R : Type 0} {unread : R → Option (List ℕ)}
    {buffered : R → List ℕ} {failures : R → ℕ}
  where
    pub inspected_none : {s o y : ℕ} {told : Bool} {start : List (JoinInput R)}
        {held : HeldFiles s o y R} → ((c : Choice) → HoldsDatagrams unread buffered c held [])
        → IsSound unread buffered failures held → held.told.datagrams ≡ 0
        → InspectedSoFar choice unread buffered failures told start start held 0
    inspected_none {start} holds sound none = search rules

    module _ {s o y : ℕ} {told : Bool} {start now : List (JoinInput R)}
        {held : HeldFiles s o y R} {k : ℕ}
        (h : InspectedSoFar choice unread buffered failures told start now held k)
        {one : JoinInput R}
        (at : slice_get now k ≡ Some one) where
      was : slice_get start k ≡ Some one
      was = search rules

      -- the input at this place, and its bytes
      is_input : (contents : List (List ℕ)) → AreInputs unread start contents → (bytes : List ℕ) ×
          (slice_get contents k ≡ Some bytes) × IsInput unread one bytes
      is_input contents inputs =
          let within = slice_get_within _ k _ was in
          let here = at_place _ k (omega arith) in
          (here.0, here.1, inputs.each k one here.0 was here.1)

      -- no source failed, nor did the one that was read now
      none_more : (new : JoinInput R) → failures_of failures new ≡ failures_of failures one
          → NoneFailed failures start (set now k new)
      none_more new failed = search (
        rules,
        slice_get_within,
        cases_eq,
        some_same,
        slice_get-set_same,
        one_is,
        was,
        slice_get-set_other,
      )

      pub inspected_more : (new : JoinInput R) {after : HeldFiles s o y R} → IsReady unread buffered
          failures new → (told ≡ true → (bytes : List ℕ) → IsInput unread one bytes →
          (datagrams : List (List ℕ)) × IsInspected unread buffered choice new bytes datagrams ×
          HoldsMore unread buffered choice held after datagrams) → CountsUpTo unread buffered
          failures 16777216 held after → failures_of failures new ≡ failures_of failures one →
          InspectedSoFar choice unread buffered failures told start (set now k new) after (k + 1)
      inspected_more new ready looks counts failed =
          let next : suc k ≡ k + 1 = omega arith in
          record {
            as_many = cc (length-set now k new);
            later = λ j past. slice_get-set_other _ k j _ (λ same. omega (arith, same, past)) ∙
                h.later j (omega (arith, past));
            ready = rw (← next) (all_more _ _ k _ at h.ready ready);
            finds = λ is contents inputs. let own = is_input _ inputs in
                let all = h.finds is contents inputs in
                let more = looks is own.0 own.2 in (
                  all.0 ++ more.0,
                  rw (← next)
                      (one_more choice unread buffered _ more.0 more.1 k _ _ all.0 at own.1 all.1),
                  more.2
                      all.0 all.2,
                );
            few = omega arith;
            sound = counts.1;
            none_failed = none_more _ failed;
          }

      pub inspect_fails : (fault : CommandFault) →
          ((bytes : List ℕ) → IsInput unread one bytes → InspectionFails (k + 1) bytes fault) → told
          ≡ true → (contents : List (List ℕ)) → AreInputs unread start contents →
          SomeInspectionFails contents fault
      inspect_fails fault fails is contents inputs =
          let own = is_input _ inputs in
          let all = h.finds is contents inputs in (
            k + 1,
            first_at _ _ _ k _ own.1 (all_known choice unread buffered _ _ all.0 all.1)
                (fails own.0 own.2),
          )

      -- the inspection of input k + 1 failed: the fault is that of this input
      pub inspect_names : (fault : CommandFault) → NamesOnly (k + 1) fault
          → NamesOneOf (length start) fault
      inspect_names fault e = search (rules, slice_get_within, was)

      pub inspect_failed : (new : JoinInput R) (fault : CommandFault) → NamesOnly (k + 1) fault →
          FailsToRead {T = Unit {0}} (failures_of failures one) (failures_of failures new)
          (Err fault) → (number : ℕ) → fault ≡ Input number Read → OneFailed failures number start
          (set now k new)
      inspect_failed new fault names fails number e = search
          (rules, slice_get_within, was, slice_get-set_same)

    -- after the last input all were inspected
    module _ {s o y : ℕ} {told : Bool} {start now : List (JoinInput R)}
        {held : HeldFiles s o y R} {k : ℕ}
        (h : InspectedSoFar choice unread buffered failures told start now held k)
        (past : length start ≤ k) where
      all_of_them : take k now ≡ now
      all_of_them = search (rules, take_all)

      pub finds_all : told ≡ true → (contents : List (List ℕ))
          → AreInputs unread start contents → Finds unread buffered choice now contents held
      finds_all is contents inputs = search (rules, take_all, all_of_them)
