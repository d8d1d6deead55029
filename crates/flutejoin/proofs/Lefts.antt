-- forget: nothing is taken out of a journal, or the same is taken out again (specs/Laws).
use Rattle.std.proofs.Common.{rules}
use Rattle.std.proofs.Common.{◌≡◌, ℕ, suc, Bool, List, [], ◌∷◌, length}
use Rattle.std.proofs.Common.{arith, refl, sym, ap, ◌∙◌, inl, inr}
use Rattle.std.specs.Prelude.{not, filter}
use Rattle.std.proofs.lemmas.Bool.{cases_Bool}
use Rattle.std.proofs.lemmas.List.{append_cancel_left}
use Rattle.std.proofs.lemmas.List.Sums.{length-filter}
use Rattle.flute_parts.specs.Facts.{IsRising, StandAfter}
use Rattle.flute_parts.specs.declared.address.Address.{Address}
use Rattle.flute_parts.specs.declared.fact.Fact.{Fact}
use Rattle.flute_parts.proofs.Public.{rising_unique}
use Rattle.flute_journal.specs.Journal.{IsJournalWithin, Journal}
use Rattle.flute_streams.specs.Selections.{left, leaves_out, left_out_in}
use Rattle.flute_journal.specs.declared.format.version.Version.TheVariants.{Two}
use Rattle.flute_streams.specs.declared.choice.selection.AllBut.{AllBut}
use Rattle.flutejoin.specs.Laws.{Leaves}
use Rattle.flutejoin.specs.declared.forget.ForgetCounts.{ForgetCounts}
use Rattle.flutejoin.specs.declared.limits.TheConstants.{MAX_ENTRIES}
use Rattle.flutejoin.proofs.join_lemmas.Receptions.{IsJournal-from_within, Journal-only}
use Rattle.flutejoin.proofs.join_lemmas.Receptions.{Same-from_journals}

rising_after : (p : Fact → Bool) (a : Address) (facts : List Fact) → StandAfter a facts
    → StandAfter a (filter p facts)
rising_after p a [] s = tt
rising_after p a (f ∷ facts) s = search (rules, rising_after p a facts s.1)

rising_left : (p : Fact → Bool) (facts : List Fact) → IsRising facts → IsRising (filter p facts)
rising_left p [] r = tt
rising_left p (f ∷ facts) r = search (rules, cases_Bool, rising_after, rising_left p facts r.1)

none_left : (p : Fact → Bool) (facts : List Fact) → length (filter p facts) ≡ 0
    → filter (λ f. not (p f)) facts ≡ facts
none_left p [] e = refl
none_left p (f ∷ facts) e = elim (cases_Bool (p f)) [
  | inl t ↦ absurd (let h : suc (length (filter p facts)) ≡ 0 = rw t at e in omega arith)
  | inr t ↦ rw t (ap (λ l. f ∷ l) (none_left p facts (rw t at e)))
]

none_selected : (p : Fact → Bool) (facts : List Fact)
    → filter p (filter (λ f. not (p f)) facts) ≡ []
none_selected p [] = refl
none_selected p (f ∷ facts) = search (rules, none_selected p facts)

left_of_none : (s : AllBut) (facts : List Fact) → left_out_in s facts ≡ 0 → left s facts ≡ facts
left_of_none s facts none = none_left _ _ (length-filter (leaves_out s) facts ∙ none)

none_in_left : (s : AllBut) (facts : List Fact) → left_out_in s (left s facts) ≡ 0
none_in_left s facts =
    sym (length-filter (leaves_out s) (left s facts)) ∙ ap length (none_selected (leaves_out s) facts)

module _ (s : AllBut) (bytes written : List ℕ) (counts : ForgetCounts)
    (h : Leaves s bytes written counts) where
  abbrev pub entries_of : List Fact
  entries_of = h.1.entries

  pub within_of : IsJournalWithin MAX_ENTRIES bytes entries_of
  within_of = h.1.journal.0

  pub count_of : counts.forgotten ≡ left_out_in s entries_of
  count_of = h.1.journal.1

  pub journal_left : Journal written (left s entries_of)
  journal_left =
      let is = append_cancel_left h.0 written h.1.writes.bytes
      h.1.writes.appended in rw (← is) at h.1.writes.journal

-- with nothing to forget the journal is the same
pub none_forgotten : (s : AllBut) (bytes written : List ℕ) (counts : ForgetCounts)
    (facts : List Fact) → Leaves s bytes written counts → counts.forgotten ≡ 0
    → Journal bytes facts → written ≡ bytes
none_forgotten s bytes written counts facts h none journal =
    let E = entries_of s bytes written counts h in
    let all = left_of_none s E (cc) in
    let same = Same-from_journals _ E _ (IsJournal-from_within _ E (within_of s _ _ _ h))
    (Two, journal) in Journal-only _ _ E _ same (rw (← all) (journal_left s _ _ _ h)) journal

-- what is left is left again
pub forgotten_twice : (s : AllBut) (bytes once twice : List ℕ) (counts again : ForgetCounts) →
    Leaves s bytes once counts → Leaves s once twice again → (again.forgotten ≡ 0) × (twice ≡ once)
forgotten_twice s bytes once twice counts again h k =
    let E = entries_of s bytes once counts h in
    let F = entries_of s once twice again k in
    let within = within_of s _ _ _ k in
    let journal = journal_left s _ _ _ h in
    let same = Same-from_journals _ F _ (IsJournal-from_within _ F within) (Two, journal) in
    let one = rising_unique F _ within.are_items.in_order
    (rising_left _ E (within_of s _ _ _ h).are_items.in_order) same in
    let none = count_of s _ _ _ k ∙ ap (left_out_in s) one ∙ none_in_left s E in
    (none, none_forgotten s _ _ _ _ k none journal)
