-- join_inspected: the inputs and what is held, merged as streams, and the facts they contain.
use Rattle.std.proofs.lemmas.Grind.{common_steps}
use Rattle.std.proofs.Common.{rules}
use Rattle.std.proofs.Common.{◌≡◌, ℕ, zero, suc, ◌+◌, ◌*◌, ◌^◌, ◌<◌, ◌≤◌, not, List, [], ◌∷◌, ◌++◌}
use Rattle.std.proofs.Common.{length, take, map, count_by, cond, append-nil, append_assoc, Option}
use Rattle.std.proofs.Common.{refl, sym, ap, ◌∙◌, subst, arith}
use Rattle.std.specs.Prelude.{sum_by, IfSome}
use Rattle.std.specs.List.{flat_map, AllByRecursion}
use Rattle.std.proofs.lemmas.Grind.{flat_map-append}
use Rattle.std.proofs.lemmas.List.Sums.{count_by-le-length, sum_by-append, sum_by-cons}
use Rattle.flute_parts.specs.Facts.{Same}
use Rattle.flute_parts.specs.declared.fact.Fact.{Fact}
use Rattle.flute_parts.proofs.Public.{Below-from_Same, Over-below, Same-append, Same-itself}
use Rattle.flute_parts.proofs.Public.{Same-swap, Same-trans}
use Rattle.flute_streams.proofs.Public.{taken_all}
use Rattle.flute_streams.specs.Advances.{AreNew}
use Rattle.flute_streams.specs.Chains.{beside, taken}
use Rattle.flute_streams.specs.FirstFaults.{TellBefore}
use Rattle.flute_journal.specs.Journal.{IsJournalWithin}
use Rattle.flute_journal.specs.JournalWriters.{PutsJournal}
use Rattle.flute_streams.specs.Objects.{is_taken}
use Rattle.flute_streams.specs.Scopes.{is_chosen, chosen, others_in}
use Rattle.flute_streams.specs.StreamMerges.{all_of, EachSince, EndsMerged, IsWithinLimits}
use Rattle.flute_streams.specs.Streams.{Behaviour, IsNew, most_of}
use Rattle.flute_streams.specs.declared.merge.all_streams.MergedJournal.{MergedJournal}
use Rattle.flute_streams.specs.declared.streams.either.Either.{Either}
use Rattle.flute_streams.specs.declared.streams.either.Either.TheVariants.{First, Second}
use Rattle.flutejoin.specs.declared.join.join_input.JoinInput.{JoinInput}
use Rattle.flutejoin.specs.declared.join.join_input.JoinInput.TheVariants.{Journal, Datagrams}
use Rattle.flutejoin.specs.declared.join.join_input.JoinInput.TheVariants.{Unknown}
use Rattle.flutejoin.specs.InputStreams.{passed_over, input_behaviour}
use Rattle.flutejoin.specs.Joined.{Choice, facts_by, is_of_others, InputContent, of_journal}
use Rattle.flutejoin.specs.Joined.{of_file, content_facts, content_datagrams, content_others, Tells}
use Rattle.flutejoin.specs.Joined.{TellAll}
use Rattle.flutejoin.specs.JoinFaults.{IsValid}
use Rattle.flutejoin.specs.JoinParts.{IsInspected, AreInspected, IsReady, JoinsInspected}
use Rattle.flutejoin.specs.JoinParts.{joined_behaviour, AreNewlyHeld, End}
use Rattle.flutejoin.specs.Limits.{Limits, at_most, IsOver}

pub over_same : (most : Limits) (F G : List Fact) → Same F G → IsOver most F → IsOver most G
over_same most F G same over = search (rules, Over-below, Below-from_Same)

-- facts in front of others, in two ways
regroup : (O D F G R : List Fact) → Same R (D ++ G) → Same ((O ++ F) ++ R) ((O ++ D) ++ (F ++ G))
regroup O D F G R h =
    let turned = Same-trans _ _ _
    (rw (← (append_assoc F D G)) at (Same-append F F R _ (Same-itself F) h))
    (rw (← append_assoc D F G) (Same-append _ _ G G (Same-swap F D) (Same-itself G))) in rw
    (append_assoc O F R) (subst (λ l. Same (O ++ (F ++ R)) l) (sym (append_assoc O D (F ++ G)))
    (Same-append O O _ _ (Same-itself O) turned))

-- no input is left out
pub all_taken : {X : Type 0} (xs : List X) → length xs ≤ 64 → taken xs ≡ xs
all_taken xs many = taken_all _ (omega arith)

module _ {R : Type 0} (unread : R → Option (List ℕ)) (buffered : R → List ℕ)
    (failures : R → ℕ) {S : Type 0}
    (b : Behaviour S) where
  abbrev pub joins : Behaviour (Either S (JoinInput R))
  joins = joined_behaviour unread buffered failures b

  abbrev pub are_ready : List (JoinInput R) → Type 0
  are_ready xs = AllByRecursion (IsReady unread buffered failures) xs

  abbrev pub as_streams : List (JoinInput R) → List (Either S (JoinInput R))
  as_streams xs = map Second xs

  -- The streams are new, and hold few facts.

  new_input : (x : JoinInput R) → IsReady unread buffered failures x → IsNew joins (Second x)
  new_input = grind (arith, common_steps)

  inputs_new : (xs : List (JoinInput R)) → are_ready xs → AreNew joins (as_streams xs)
  inputs_new [] h = tt
  inputs_new (x ∷ xs) h = (new_input x h.0, inputs_new xs h.1)

  few_input : (x : JoinInput R) → IsReady unread buffered failures x
      → joins.most (Second x) ≤ 16777216
  few_input other h = search rules

  inputs_few : (xs : List (JoinInput R)) → are_ready xs
      → most_of joins (as_streams xs) ≤ length xs * 16777216
  inputs_few [] h = omega arith
  inputs_few (x ∷ xs) h = omega (arith, few_input x h.0, inputs_few xs h.1)

  -- those of what is held are new, and hold few facts

  held_new : (ws : List S) (ys : List (Either S (JoinInput R))) → AreNew b ws → AreNew joins ys
      → AreNew joins (map First ws ++ ys)
  held_new [] ys h k = k
  held_new (w ∷ ws) ys h k = (one_new w h.0, held_new ws ys h.1 k)
    where
      one_new : (w : S) → IsNew b w → IsNew joins (First w)
      one_new w h = record {
        held = h.held;
        passes = h.passes;
        reads = h.reads;
        fails = h.fails;
      }

  held_few : (ws : List S) (ys : List (Either S (JoinInput R)))
      → most_of joins (map First ws ++ ys) ≡ most_of b ws + most_of joins ys
  held_few [] ys = omega arith
  held_few (w ∷ ws) ys = omega (arith, held_few ws ys)

  module _ (ws : List S) (xs : List (JoinInput R)) (held : AreNewlyHeld b ws)
      (many : length xs ≤ 64) (h : are_ready xs) where
    together : beside (taken ws) (taken xs) ≡ beside ws xs
    together = ap (λ l. beside l (taken xs)) (all_taken ws held.many)
        ∙ ap (beside ws) (all_taken xs many)

    pub all_new : AreNew joins (beside (taken ws) (taken xs))
    all_new = subst (AreNew joins) (sym together)
        (held_new ws (as_streams xs) held.new (inputs_new xs h))

    pub all_few : most_of joins (beside (taken ws) (taken xs)) < 2 ^ 64
    all_few = subst (λ l. most_of joins l < 2 ^ 64) (sym together)
        (omega (arith, held_few ws (as_streams xs), inputs_few xs h, held.few))

  -- what was given of streams is what was given of those of what is held, and of the inputs
  record Given (ws nows : List S) (xs ys : List (JoinInput R)) (told : List (List Fact))
      : Type 0 where
    pub held : List (List Fact)
    pub others : List (List Fact)
    pub is : told ≡ held ++ others
    pub of_held : EachSince b.ends ws nows held
    pub of_inputs : EachSince joins.ends (as_streams xs) (as_streams ys) others

  given_of : (ws nows : List S) (xs ys : List (JoinInput R)) (told : List (List Fact))
      → EachSince joins.ends (beside ws xs) (beside nows ys) told → Given ws nows xs ys told
  given_of [] [] xs ys told h =
      record { held = []; others = told; is = refl; of_held = tt; of_inputs = h }
  given_of (w ∷ ws) (v ∷ nows) xs ys (F ∷ told) h =
      let rest = given_of ws nows xs ys told h.1 in
      record {
        held = F ∷ rest.held;
        others = rest.others;
        is = ap (λ l. F ∷ l) rest.is;
        of_held = (h.0, rest.of_held);
        of_inputs = rest.of_inputs;
      }
  given_of (w ∷ ws) (v ∷ nows) xs ys [] h = absurd h
  given_of (w ∷ ws) [] xs (y ∷ ys) (F ∷ told) h = absurd h.0
  given_of (w ∷ ws) [] xs (y ∷ ys) [] h = absurd h
  given_of (w ∷ ws) [] xs [] told h = absurd h
  given_of [] (v ∷ nows) (x ∷ xs) ys (F ∷ told) h = absurd h.0
  given_of [] (v ∷ nows) (x ∷ xs) ys [] h = absurd h
  given_of [] (v ∷ nows) [] ys told h = absurd h

  all_together : (held others : List (List Fact))
      → all_of (held ++ others) ≡ all_of held ++ all_of others
  all_together [] others = refl
  all_together (F ∷ held) others =
      ap (λ l. F ++ l) (all_together held others) ∙ sym
      (append_assoc F (all_of held) (all_of others))

  -- The facts that the inputs contain.

  module _ (choice : Choice) where
    -- what one input contains, and how much of it was passed over
    record TellsOne (bytes : List ℕ) (own : List (List ℕ)) (F : List Fact)
        (passed : ℕ) : Type 0 where
      pub told : InputContent
      pub tells : Tells bytes told
      pub datagrams : content_datagrams told ≡ own
      pub facts : content_facts choice told ≡ flat_map (facts_by choice) own ++ F
      pub others : passed + count_by (is_of_others choice) own ≡ content_others choice told

    -- an inspected journal contains its facts, and a datagram file those that are held
    tells_one : (x y : JoinInput R) (bytes : List ℕ) (own : List (List ℕ)) (F : List Fact) → IsReady
        unread buffered failures x → IsInspected unread buffered choice x bytes own →
        (input_behaviour unread buffered failures).ends x y F → TellsOne bytes own F (passed_over y)
    tells_one (Journal x) (Journal y) bytes own F ready inspected h =
        let all = h.0 in
        let P : Option (List ℕ) → Type 0 = λ o. IfSome o
        (λ bs. IsJournalWithin x.stream.max_entries bs all) in
        let Q : ℕ → Type 0 = λ n. IsJournalWithin n bytes all in
        let journal = rw ready.3 at (subst P inspected.2 h.1.0) in
        let is = h.2 ∙ ap (λ takes. chosen takes all) inspected.3 in
        let few = count_by-le-length (λ f. not (is_chosen (is_taken x.choice) f)) all in
        let count : y.others ≡ x.others + others_in (is_taken x.choice) all = h.1.1 (omega arith) in
        let same = ap (λ takes. others_in takes all) inspected.3 in
        let none = ap (count_by (is_of_others choice)) inspected.0 in
        record {
          told = of_journal all;
          tells = journal;
          datagrams = cc;
          facts = cc;
          others = omega arith;
        }
    tells_one (Datagrams x) (Datagrams y) bytes own F ready inspected h = record {
      told = of_file own;
      tells = inspected;
      datagrams = refl;
      facts = cc (append-nil (flat_map (facts_by choice) own));
      others = omega arith;
    }
    tells_one Unknown y _ _ F _ inspected h = absurd inspected
    tells_one _ _ _ _ F _ _ h = absurd h

    -- what all inputs contain
    record TellsEach (contents datagrams : List (List ℕ)) (F : List Fact)
        (passed : ℕ) : Type 0 where
      pub told : List InputContent
      pub tell : TellAll contents told
      pub datagrams_are : flat_map content_datagrams told ≡ datagrams
      pub same : Same (flat_map (content_facts choice) told)
          (flat_map (facts_by choice) datagrams ++ F)
      pub others : passed + count_by (is_of_others choice) datagrams
          ≡ sum_by (content_others choice) told

    none_told : TellsEach [] [] [] 0
    unfolding TellAll
    none_told = search rules

    -- one input more adds its own facts
    one_more : {bytes : List ℕ} {contents own others : List (List ℕ)} {F G : List Fact} {m n : ℕ}
        → TellsOne bytes own F m → TellsEach contents others G n
        → TellsEach (bytes ∷ contents) (own ++ others) (F ++ G) (m + n)
    unfolding TellAll
    one_more {bytes} {contents} {own} {others} {F} {G} one all =
        let O = flat_map (facts_by choice) own in
        let D = flat_map (facts_by choice) others in
        let rest = flat_map (content_facts choice) all.told in
        let of_own = sum_by-append (λ d. cond (is_of_others choice d) 1 0) own others in
        let of_told = sum_by-cons (content_others choice) one.told all.told in
        record {
          told = one.told ∷ all.told;
          tell = (one.tells, all.tell);
          datagrams_are = cc;
          same = rw one.facts (subst (λ l. Same ((O ++ F) ++ rest) (l ++ (F ++ G)))
              (sym (flat_map-append (facts_by choice) own others)) (regroup O D F G rest all.same));
          others = omega arith;
        }

    -- all inputs contain their facts, and those that are held
    tells_each : (xs ys : List (JoinInput R)) (contents datagrams : List (List ℕ))
        (given : List (List Fact)) → are_ready xs → AreInspected unread buffered choice xs contents
        datagrams → EachSince joins.ends (as_streams xs) (as_streams ys) given → TellsEach contents
        datagrams (all_of given) (sum_by passed_over ys)
    tells_each [] [] [] _ [] r h t = rw h none_told
    tells_each (x ∷ xs) (y ∷ ys) (bytes ∷ contents) _ (F ∷ given) r h t =
        let one = tells_one x y _ _ F r.0 h.2 t.0 in
        let all = tells_each xs ys contents _ given r.1 h.4 t.1 in
        rw h.3 (subst (TellsEach (bytes ∷ contents) (h.0 ++ h.1) (F ++ all_of given))
        (sym (sum_by-cons passed_over y ys)) (one_more one all))
    tells_each [] [] [] _ (F ∷ given) r h t = absurd t
    tells_each [] [] (bytes ∷ contents) _ _ r h t = absurd h
    tells_each [] (y ∷ ys) _ _ _ r h t = absurd t
    tells_each (x ∷ xs) [] _ _ _ r h t = absurd t
    tells_each (x ∷ xs) (y ∷ ys) [] _ _ r h t = absurd h
    tells_each (x ∷ xs) (y ∷ ys) (bytes ∷ contents) _ [] r h t = absurd t

    is_valid : (x : JoinInput R) (bytes : List ℕ) (own : List (List ℕ)) (F : List Fact)
        → IsReady unread buffered failures x → IsInspected unread buffered choice x bytes own
        → joins.tells (Second x) F → IsValid bytes
    is_valid (Journal x) bytes _ F ready inspected h =
        let P : Option (List ℕ) → Type 0 =
        λ o. IfSome o (λ bs. IsJournalWithin x.stream.max_entries bs h.0) in
        let Q : ℕ → Type 0 = λ n. IsJournalWithin n bytes h.0 in
        (of_journal h.0, rw (← ready.3) (subst P inspected.2 h.1))
    is_valid (Datagrams x) _ own F _ inspected h = (of_file own, inspected)
    is_valid Unknown _ _ F _ inspected h = absurd inspected

    -- those before an input that contain facts are valid
    pub valid_before : (n : ℕ) (xs : List (JoinInput R)) (contents datagrams : List (List ℕ))
        → are_ready xs → AreInspected unread buffered choice xs contents datagrams
        → TellBefore joins n (as_streams xs) → AllByRecursion IsValid (take n contents)
    valid_before zero xs _ _ r h t = tt
    valid_before (suc n) (x ∷ xs) (bytes ∷ contents) _ r h t =
        (is_valid x _ _ _ r.0 h.2 t.0.1, valid_before n xs contents _ r.1 h.4 t.1)
    valid_before (suc n) [] _ _ r h t = absurd t
    valid_before (suc n) (x ∷ xs) [] _ r h t = absurd h

    -- What the join of the streams wrote (specs/JoinParts: JoinsInspected).
    module _ (ws : List S) (xs ys : List (JoinInput R)) {contents datagrams : List (List ℕ)}
        (ready : are_ready xs) (inspected : AreInspected unread buffered choice xs contents
        datagrams)
        {store : List Fact} (held : End b ws store) {joined : MergedJournal}
        {u v : Option (List ℕ)} where
      of_told : (nows : List S) (told : List (List Fact)) → EachSince joins.ends (beside ws xs)
          (beside nows ys) told → PutsJournal joined.cut u v (all_of told) joined.entries →
          IsWithinLimits choice.most.sessions choice.most.objects choice.most.symbols (all_of told)
          joined.within → JoinsInspected choice contents datagrams store (sum_by passed_over ys)
          joined u v
      of_told nows told ends puts limits =
          let given = given_of ws nows xs ys told ends in
          let each = tells_each xs ys contents datagrams given.others ready inspected
          given.of_inputs in
          let all : all_of told ≡ store ++ all_of given.others =
          ap all_of given.is ∙ all_together given.held given.others
          ∙ ap (λ l. l ++ all_of given.others) (held nows given.held given.of_held) in
          record {
            told = each.told;
            tell = each.tell;
            datagrams_are = each.datagrams_are;
            entries = all_of given.others;
            same = each.same;
            puts = subst (λ l. PutsJournal joined.cut u v l joined.entries) all puts;
            limits =
                subst (λ l. IsWithinLimits choice.most.sessions choice.most.objects
                choice.most.symbols l joined.within) all limits;
            others = each.others;
          }

      pub joins_inspected : (nows : List S) → length ws ≤ 64 → length xs ≤ 64
          → length ys ≡ length xs → {s o y : ℕ} → choice.most ≡ at_most s o y
          → EndsMerged joins (beside (taken ws) (taken xs)) (beside nows (taken ys)) s o y
          joined u v
          → JoinsInspected choice contents datagrams store (sum_by passed_over ys) joined u v
      joins_inspected nows few many same e h =
          let P = λ (l : List (Either S (JoinInput R))) (m : List (Either S (JoinInput R))).
          EachSince joins.ends l m h.merged.told in
          of_told nows h.merged.told
          (subst (λ l. P (beside ws xs) (beside nows l))
          (all_taken ys (omega (arith, many, same)))
          (subst (λ l. P (beside ws l) (beside nows (taken ys))) (all_taken xs many)
          (subst (λ l. P (beside l (taken xs)) (beside nows (taken ys))) (all_taken ws few)
          h.ends))) h.merged.puts (rw e h.merged.limits)
