-- What is asked for is enough for whoever has the rest (specs/Laws).
use Rattle.std.proofs.Common.{◌≡◌, ℕ, Bool, false, cond, List, [], ◌∷◌, ◌++◌, sym, subst, inl}
use Rattle.std.proofs.Common.{inr, refl, arith, suc}
use Rattle.std.specs.Prelude.{Contains, filter}
use Rattle.std.proofs.lemmas.Bool.{cases_Bool}
use Rattle.std.proofs.lemmas.List.{append_cancel_left}
use Rattle.flute_parts.specs.Facts.{Below, Same}
use Rattle.flute_parts.specs.declared.fact.Fact.{Fact}
use Rattle.flute_parts.proofs.Public.{Below-append, Below-from_Same, Below-itself, Below-trans}
use Rattle.flute_parts.proofs.Public.{Same-from_Below, Same-itself, Same-swap, Same-twice}
use Rattle.flute_journal.specs.Journal.{IsJournal}
use Rattle.flute_journal.proofs.Public.{written_journal}
use Rattle.flutejoin.specs.FillLists.{IsListing, asked, asks}
use Rattle.flutejoin.specs.JoinTrees.{Joined}
use Rattle.flutejoin.specs.Joined.{Choice}
use Rattle.flutejoin.specs.Laws.{HaveTheRest, IsAnswer}
use Rattle.flutejoin.specs.declared.fill.asking.Asking.{Asking}
use Rattle.flutejoin.specs.declared.fill.listed_line.ListedLine.{ListedLine}
use Rattle.flutejoin.proofs.join_lemmas.JoinTrees.{OneReading}
use Rattle.flutejoin.proofs.join_lemmas.MinusJoins.{alike}
use Rattle.flutejoin.proofs.join_lemmas.Receptions.{IsJournal-from_within}

Contains-head : (f : Fact) (S : List Fact) → Contains (f ∷ S) f
Contains-head f S = (0, omega arith, refl)

Contains-tail : (f : Fact) (S : List Fact) (g : Fact) → Contains S g → Contains (f ∷ S) g
Contains-tail f S g (k, l, e) = (suc k, omega arith, e)

none_below : (G : List Fact) → Below [] G
none_below G = Same-itself G

right : (F G : List Fact) → Below G (F ++ G)
right F G = Below-append [] F G G (none_below F) (Below-itself G)

left : (F G : List Fact) → Below F (F ++ G)
left F G = Below-trans F _ _ (right G F) (Below-from_Same _ _ (Same-swap G F))

both : (F G X : List Fact) → Below F X → Below G X → Below (F ++ G) X
both F G X p q = Below-trans _ _ X (Below-append F X G X p q) (Below-from_Same _ X (Same-twice X))

module _ (takes : Fact → Bool) where
  taken_below : (S : List Fact) → Below (filter takes S) S
  taken_below [] = Below-itself []
  taken_below (f ∷ S) = elim (cases_Bool _) [
    | inl e ↦ subst (λ b. Below (cond b (f ∷ filter takes S) (filter takes S)) (f ∷ S)) (sym e)
        (Below-append (f ∷ []) (f ∷ []) _ S (Below-itself _) (taken_below S))
    | inr e ↦ rw e (Below-trans _ S _ (taken_below S) (right (f ∷ []) S))
  ]

  all_below : (C S : List Fact) → ((f : Fact) → Contains S f → takes f ≡ false → Below (f ∷ []) C) →
      Below S (C ++ filter takes S)
  all_below C [] h = none_below _
  all_below C (f ∷ S) h =
      let F = filter takes S in
      let later = λ (g : Fact) (i : Contains S g) (e : takes g ≡ false). h g (Contains-tail f S g i) e
      in
      elim (cases_Bool (takes f)) [
        | inl e ↦ rw e (both (f ∷ []) S (C ++ (f ∷ F))
            (Below-trans (f ∷ []) (f ∷ F) (C ++ (f ∷ F)) (left (f ∷ []) F) (right C (f ∷ F)))
            (Below-trans S (C ++ F) (C ++ (f ∷ F)) (all_below C S later)
            (Below-append C C F (f ∷ F) (Below-itself C) (right (f ∷ []) F))))
        | inr e ↦ rw e (both (f ∷ []) S (C ++ F)
            (Below-trans (f ∷ []) C (C ++ F) (h f (Contains-head f S) e) (left C F))
            (all_below C S later))
      ]

pub enough : (asking : Asking) (listed : List ListedLine) (facts held : List Fact) → HaveTheRest
    asking listed facts held → Same (held ++ asked asking listed facts) (held ++ facts)
enough asking listed facts held h =
    let A = asked asking listed facts in
    Same-from_Below _ _
    (Below-append _ held A facts (Below-itself _) (taken_below (asks asking listed) _))
    (both _ _ _ (left _ A) (all_below _ _ _ h))

module _ (one : OneReading) (choice : Choice) (asking : Asking)
    {asker journal lines answer : List ℕ} {count : ℕ} (bs cs : List ℕ) where
  pub joined_by : (others : List (List ℕ)) (held : List Fact) → IsJournal asker held →
      (h : IsAnswer asking journal lines answer count) → HaveTheRest asking h.writes.listed
      h.writes.facts held → Joined choice (asker ∷ answer ∷ others) bs → Joined choice
      (asker ∷ journal ∷ others) cs → bs ≡ cs
  joined_by others held s h rest j k =
      let w = h.writes in
      let A = asked asking w.listed w.facts in
      let is = append_cancel_left h.before answer w.writes.bytes w.writes.appended in
      let written = written_journal _ A (rw is w.writes.journal) in
      alike one _ _ A _ _ s written (IsJournal-from_within _ _ w.journal_is) (enough _ _ _ _ rest) j
      k

  pub joined_alike : (others : List (List ℕ)) (held : List Fact) → IsJournal asker held → IsAnswer
      asking journal lines answer count → ((listed : List ListedLine) (facts : List Fact) →
      IsListing lines listed → IsJournal journal facts → HaveTheRest asking listed facts held) →
      Joined choice (asker ∷ answer ∷ others) bs → Joined choice (asker ∷ journal ∷ others) cs → bs
      ≡ cs
  joined_alike others held s h rest j k =
      let w = h.writes in
      joined_by _ _ s h
      (rest w.listed w.facts w.lines_are (IsJournal-from_within _ _ w.journal_is)) j k
