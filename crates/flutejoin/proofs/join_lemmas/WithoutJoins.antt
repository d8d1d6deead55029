-- Joins without listed objects, and what forgetting them leaves of joins.
use Rattle.std.proofs.Common.{rules}
use Rattle.std.proofs.Common.{◌≡◌, ℕ, Bool, true, false, List, [], ◌∷◌, Option, Some, None, refl}
use Rattle.std.proofs.Common.{◌++◌, ◌∙◌, sym, ap, subst}
use Rattle.std.specs.Prelude.{not, ◌&&◌, filter, is_some}
use Rattle.std.specs.BTreeSet.{BTreeSet, contains}
use Rattle.std.specs.List.{flat_map}
use Rattle.std.proofs.lemmas.List.Elements.{filter-append}
use Rattle.flute_parts.specs.Facts.{Same}
use Rattle.flute_parts.specs.Order.{key_cmp}
use Rattle.flute_parts.specs.declared.fact.Fact.{Fact}
use Rattle.flute_parts.specs.declared.key.Key.{Key}
use Rattle.flute_parts.proofs.Public.{Same-sym, Same-trans}
use Rattle.flute_journal.proofs.Public.{written_journal}
use Rattle.flute_wire.specs.Reading.{facts}
use Rattle.flute_streams.specs.Scopes.{chosen, is_all, is_chosen, takes_key}
use Rattle.flute_streams.specs.Selections.{all_but_of, is_everything, leaves, left, selects}
use Rattle.flute_streams.specs.declared.choice.scope.Scope.{Scope}
use Rattle.flute_streams.specs.declared.choice.selection.AllBut.{AllBut}
use Rattle.flute_streams.specs.declared.choice.selection.Selection.{Selection}
use Rattle.flutejoin.specs.JoinTrees.{Joined}
use Rattle.flutejoin.specs.Joined.{Choice, InputContent, choice_without, content_facts, facts_by}
use Rattle.flutejoin.specs.Joined.{of_file, of_journal}
use Rattle.flutejoin.specs.Laws.{AreLeft, IsOfObjects, Leaves}
use Rattle.flutejoin.specs.Limits.{Limits}
use Rattle.flutejoin.specs.declared.forget.ForgetCounts.{ForgetCounts}
use Rattle.flutejoin.proofs.Lefts.{entries_of, journal_left, within_of}
use Rattle.flutejoin.proofs.join_lemmas.ForgetJoins.{all_left, filter_same, left_chosen}
use Rattle.flutejoin.proofs.join_lemmas.ForgetJoins.{stays}
use Rattle.flutejoin.proofs.join_lemmas.JoinTrees.{OneReading, same_chosen, tell_same, wrote}
use Rattle.flutejoin.proofs.join_lemmas.Receptions.{IsJournal-from_within, Journal-only}
use Rattle.flutejoin.proofs.join_lemmas.Receptions.{Same-from_journals}

filter_both : (p q : Fact → Bool) (F : List Fact)
    → filter (λ f. p f && q f) F ≡ filter p (filter q F)
filter_both p q [] = refl
filter_both p q (f ∷ F) = go _ _ refl refl (filter_both p q F)
  where
    go : (a b : Bool) → p f ≡ a → q f ≡ b
        → filter (λ f. p f && q f) F ≡ filter p (filter q F)
        → filter (λ f. p f && q f) (f ∷ F) ≡ filter p (filter q (f ∷ F))
    go true true x y h = search rules
    go true false x y h = search rules
    go false true x y h = search rules
    go false false x y h = search rules

filter_all : {X : Type 0} (p : Fact → Bool) (g h : X → List Fact) → ((x : X) → h x ≡ filter p (g x))
    → (xs : List X) → flat_map h xs ≡ filter p (flat_map g xs)
filter_all p g h _ [] = refl
filter_all p g h same (x ∷ xs) = ap (λ l. l ++ flat_map h xs) (same x) ∙ ap
    (λ l. filter p (g x) ++ l) (filter_all p g h same xs) ∙ sym (filter-append p _ _)

-- Of everything each fact is selected.

both_true : (a b : Bool) → (a && b) ≡ true → (a ≡ true) × (b ≡ true)
both_true true true e = (refl, refl)
both_true true false e = absurd (search rules)
both_true false b e = absurd (search rules)

not_false : (b : Bool) → not b ≡ true → b ≡ false
not_false true e = absurd (search rules)
not_false false e = refl

is_none : {X : Type 0} (o : Option X) → not (is_some o) ≡ true → o ≡ None
is_none None e = refl
is_none (Some x) e = absurd (search rules)

takes_each : (scope : Scope) → is_all scope ≡ true → (key : Key) → takes_key scope key ≡ true
takes_each scope e key = search rules

module _ (s : Selection) (e : is_everything s ≡ true) where
  abbrev of_sender : Bool
  of_sender = not (is_some s.sender)

  abbrev of_symbol : Bool
  of_symbol = not (is_some s.symbol)

  abbrev objects_are : Bool
  objects_are = of_sender && is_all s.scope

  abbrev symbols_are : Bool
  symbols_are = objects_are && of_symbol

  conflicts_are : ((symbols_are && not s.info) ≡ true) × (not s.conflicts ≡ true)
  conflicts_are = both_true _ _ e

  info_is : (symbols_are ≡ true) × (not s.info ≡ true)
  info_is = both_true _ _ conflicts_are.0

  symbol_is : (objects_are ≡ true) × (of_symbol ≡ true)
  symbol_is = both_true _ _ info_is.0

  key_is : (of_sender ≡ true) × (is_all s.scope ≡ true)
  key_is = both_true _ _ symbol_is.0

  of_objects : (keys : BTreeSet Key) → IsOfObjects (all_but_of keys s)
  of_objects _ = record {
    symbol = is_none _ symbol_is.1;
    info = not_false _ info_is.1;
    conflicts = not_false _ conflicts_are.1;
  }

  selects_each : (f : Fact) → selects s f ≡ true
  selects_each f = rw (
    is_none _ key_is.0,
    is_none _ symbol_is.1,
    not_false _ info_is.1,
    not_false
        _ conflicts_are.1,
    takes_each _ key_is.1 _,
  ) refl

abbrev facts_told : Choice → List InputContent → List Fact
facts_told choice told = flat_map (content_facts choice) told

module _ (most : Limits) (sender : ℕ) (scope : Scope) (keys : BTreeSet Key) where
  abbrev with : Choice
  with = choice_without most sender scope (Some keys)

  abbrev all : Choice
  all = choice_without most sender scope None

  abbrev unlisted : Key → Bool
  unlisted key = not (contains key_cmp keys key)

  facts_without : (F : List Fact) → chosen with.takes F ≡ chosen unlisted (chosen all.takes F)
  facts_without F = filter_both _ _ F

  content_without : (x : InputContent)
      → content_facts with x ≡ chosen unlisted (content_facts all x)
  content_without (of_journal entries) = facts_without _
  content_without (of_file datagrams) = filter_all (is_chosen unlisted) (facts_by all)
      _ (λ d. facts_without (facts sender d)) datagrams

  told_without : (told : List InputContent)
      → facts_told with told ≡ chosen unlisted (facts_told all told)
  told_without told = filter_all (is_chosen unlisted) (content_facts all) _ content_without told

  module _ (s : Selection) (e : is_everything s ≡ true) where
    abbrev rest : AllBut
    rest = all_but_of keys s

    leaves_unlisted : (f : Fact) → leaves rest f ≡ is_chosen unlisted f
    leaves_unlisted f = stays _ _
        (selects_each s e f)
      where
        stays : (a b : Bool) → b ≡ true → not (a && b) ≡ not a
        stays true b is = ap not is
        stays false b is = refl

    left_unlisted : (F : List Fact) → left rest F ≡ chosen unlisted F
    left_unlisted F = filter_same _ _ leaves_unlisted F

    module _ (one : OneReading) where
      -- what was forgotten of the join
      pub forgotten_after : {inputs : List (List ℕ)} {bs cs ds : List ℕ} {counts : ForgetCounts}
          → Joined with inputs bs → Joined all inputs cs → Leaves rest cs ds counts → bs ≡ ds
      forgotten_after {inputs} {bs} {cs} {ds} {counts} j k l =
          let xs = j.2.told in
          let ys = k.2.told in
          let E = entries_of rest cs ds counts l in
          let held = Same-from_journals _ E _ (IsJournal-from_within _ E (within_of _ _ _ _ l))
          (written_journal _ _ (wrote one _ _ _ k)) in
          let taken = rw (told_without ys) at (tell_same one with _ _ _ j.2.tell k.2.tell) in
          let same = rw (← (left_unlisted E)) at
          (Same-trans _ _ _ taken (Same-sym _ _ (same_chosen unlisted E _ held))) in Journal-only _
          _ _ _ same (wrote one _ _ _ j) (journal_left _ _ _ _ l)

      -- what was forgotten of each journal
      pub forgotten_before : {journals written : List (List ℕ)} {bs cs : List ℕ} → AreLeft rest
          journals written → Joined with journals bs → Joined all written cs → bs ≡ cs
      forgotten_before {journals} {written} {bs} {cs} h j k =
          let xs = j.2.told in
          let ys = k.2.told in
          let of = of_objects s e keys in
          let of_left = sym (left_chosen _ of _) ∙ left_unlisted _ in
          let taken = subst (λ m. Same (facts_told all ys) m) (of_left ∙ sym (told_without xs))
          (all_left _ _ all _ _ _ _ h j.2.tell k.2.tell) in Journal-only _ _ _ _
          (Same-sym _ _ taken) (wrote one _ _ _ j) (wrote one _ _ _ k)
