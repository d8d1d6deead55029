-- Joins of journals of which objects were forgotten (specs/Laws: AreLeft).
use Rattle.std.proofs.Common.{rules}
use Rattle.std.proofs.Common.{◌≡◌, ℕ, Bool, true, false, List, [], ◌∷◌, refl, ap, ◌∙◌}
use Rattle.std.specs.Prelude.{not, ◌&&◌, cond, filter}
use Rattle.std.specs.List.{flat_map}
use Rattle.std.proofs.lemmas.List.Elements.{filter-append}
use Rattle.flute_parts.specs.Facts.{Same}
use Rattle.flute_parts.specs.declared.fact.Fact.{Fact}
use Rattle.flute_parts.specs.declared.key.Key.{Key}
use Rattle.flute_parts.proofs.Public.{Same-append, Same-itself, Same-sym, Same-trans}
use Rattle.flute_journal.proofs.Public.{written_journal}
use Rattle.flute_streams.specs.Scopes.{chosen, is_chosen}
use Rattle.flute_streams.specs.Selections.{is_listed, leaves, left, selects_key}
use Rattle.flute_streams.specs.declared.choice.selection.AllBut.{AllBut}
use Rattle.flutejoin.specs.JoinTrees.{Joined}
use Rattle.flutejoin.specs.Joined.{Choice, InputContent, TellAll, content_facts}
use Rattle.flutejoin.specs.Laws.{AreLeft, IsOfObjects, Leaves}
use Rattle.flutejoin.specs.declared.forget.ForgetCounts.{ForgetCounts}
use Rattle.flutejoin.proofs.Lefts.{entries_of, journal_left, within_of}
use Rattle.flutejoin.proofs.join_lemmas.JoinTrees.{OneReading, same_chosen, wrote}
use Rattle.flutejoin.proofs.join_lemmas.MinusJoins.{told_journal}
use Rattle.flutejoin.proofs.join_lemmas.Receptions.{IsJournal-from_within, Journal-only}
use Rattle.flutejoin.proofs.join_lemmas.Receptions.{Same-from_journals}

pub filter_same : (p q : Fact → Bool) → ((f : Fact) → p f ≡ q f) → (F : List Fact)
    → filter p F ≡ filter q F
filter_same p q _ [] = refl
filter_same p q same (f ∷ F) = ap (λ b. cond b (f ∷ filter p F) (filter p F)) (same f) ∙ ap
    (λ l. cond (q f) (f ∷ l) l) (filter_same p q same F)

filter_swaps : (p q : Fact → Bool) (F : List Fact) → filter p (filter q F) ≡ filter q (filter p F)
filter_swaps p q [] = refl
filter_swaps p q (f ∷ F) = go _ _ refl refl (filter_swaps p q F)
  where
    go : (a b : Bool) → p f ≡ a → q f ≡ b → filter p (filter q F) ≡ filter q (filter p F)
        → filter p (filter q (f ∷ F)) ≡ filter q (filter p (f ∷ F))
    go true true x y h = search rules
    go true false x y h = search rules
    go false true x y h = search rules
    go false false x y h = search rules

all_true : (a b : Bool) → not (a && (b && (true && (true && true)))) ≡ not (a && b)
all_true true true = refl
all_true true false = refl
all_true false b = refl

module _ (rest : AllBut) (of : IsOfObjects rest) where
  pub stays : Key → Bool
  stays key = not (is_listed rest.listed key && selects_key rest.selection key)

  stays_by : (f : Fact) → leaves rest f ≡ is_chosen stays f
  unfolding stays
  stays_by f = search (rules, of.symbol, of.info, of.conflicts, all_true)

  pub left_chosen : (F : List Fact) → left rest F ≡ chosen stays F
  left_chosen F = filter_same _ _ stays_by F

  abbrev facts_told : Choice → List InputContent → List Fact
  facts_told choice told = flat_map (content_facts choice) told

  -- what of an input is left
  module _ (choice : Choice) (bytes written : List ℕ) (counts : ForgetCounts) where
    one_left : (x y : InputContent) → (h : Leaves rest bytes written counts) → Same
        (content_facts choice x) (chosen choice.takes (entries_of rest bytes written counts h)) →
        Same (content_facts choice y)
        (chosen choice.takes (left rest (entries_of rest bytes written counts h))) → Same
        (content_facts choice y) (chosen stays (content_facts choice x))
    one_left x y h a b =
        let E = entries_of rest bytes written counts h in
        let e = ap (λ l. chosen choice.takes l) (left_chosen E) ∙ filter_swaps _ _ E in
        Same-trans _ _ _ b (rw e (Same-sym _ _ (same_chosen stays _ _ a)))

  pub all_left : (choice : Choice) (journals written : List (List ℕ)) (xs ys : List InputContent)
      → AreLeft rest journals written → TellAll journals xs → TellAll written ys
      → Same (facts_told choice ys) (chosen stays (facts_told choice xs))
  unfolding TellAll
  all_left _ [] [] [] [] h t u = Same-itself []
  all_left _ [] [] (x ∷ xs) ys h t u = elim t [ ]
  all_left _ [] [] [] (y ∷ ys) h t u = elim u [ ]
  all_left _ [] (w ∷ ws) xs ys h t u = absurd h
  all_left _ (j ∷ js) [] xs ys h t u = absurd h
  all_left _ (j ∷ js) (w ∷ ws) [] ys h t u = elim t [ ]
  all_left _ (j ∷ js) (w ∷ ws) (x ∷ xs) [] h t u = elim u [ ]
  all_left choice (j ∷ js) (w ∷ ws) (x ∷ xs) (y ∷ ys) h t u =
      let counts = h.0.0 in
      let k = h.0.1 in
      let E = entries_of rest j w counts k in
      let a = told_journal choice j E x (IsJournal-from_within j E (within_of _ j w _ k)) t.0 in
      let b = told_journal choice w _ y (written_journal w _ (journal_left _ j w _ k)) u.0 in
      let one = one_left choice j w _ x y k a b in
      let others = all_left choice js ws xs ys h.1 t.1 u.1 in
      rw (filter-append (is_chosen stays) (content_facts choice x) (facts_told choice xs))
      (Same-append _ _ _ _ one others)

  pub commutes : OneReading → (choice : Choice) (journals written : List (List ℕ))
      {bs cs ds : List ℕ} {counts : ForgetCounts} → AreLeft rest journals written
      → Joined choice written bs → Joined choice journals cs → Leaves rest cs ds counts → bs ≡ ds
  commutes one choice journals written {bs} {cs} {ds} {counts} h j k l =
      let xs = k.2.told in
      let ys = j.2.told in
      let E = entries_of rest cs ds counts l in
      let held = Same-from_journals _ E _ (IsJournal-from_within _ E (within_of _ _ _ _ l))
      (written_journal _ _ (wrote one _ _ _ k)) in
      let same = rw (← (left_chosen E)) at (Same-trans _ _ _
      (all_left choice _ _ _ _ h k.2.tell j.2.tell) (Same-sym _ _ (same_chosen stays E _ held))) in
      Journal-only _ _ _ _ same (wrote one _ _ _ j) (journal_left _ _ _ _ l)
