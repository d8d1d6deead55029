-- Joins of what `minus` wrote of a journal (specs/Laws).
use Rattle.std.proofs.Common.{◌≡◌, ℕ, List, [], ◌∷◌, ◌++◌, length, sym, ap}
use Rattle.std.proofs.Common.{◌∙◌, append_assoc, arith}
use Rattle.std.specs.Prelude.{slice_index, true}
use Rattle.std.specs.List.{flat_map}
use Rattle.std.proofs.lemmas.List.{append_cancel_left}
use Rattle.std.proofs.lemmas.List.Elements.{filter-append}
use Rattle.flute_parts.specs.Facts.{Below, Same}
use Rattle.flute_parts.specs.declared.fact.Fact.{Fact}
use Rattle.flute_parts.specs.declared.key.Key.{Key}
use Rattle.flute_parts.proofs.Public.{Below-from_Same, Below-trans, Same-append, Same-itself}
use Rattle.flute_parts.proofs.Public.{Same-swap, Same-sym, Same-trans, rising_unique}
use Rattle.flute_journal.specs.Journal.{IsJournal}
use Rattle.flute_journal.specs.Records.{IsFileWithin}
use Rattle.flute_journal.specs.declared.format.version.Version.TheVariants.{One, Two}
use Rattle.flute_journal.proofs.Public.{written_journal}
use Rattle.flute_streams.specs.Minus.{minus}
use Rattle.flute_streams.specs.Scopes.{chosen}
use Rattle.flutejoin.specs.JoinTrees.{Joined}
use Rattle.flutejoin.specs.Joined.{Choice, InputContent, TellAll, Tells, content_facts, of_file}
use Rattle.flutejoin.specs.Joined.{of_journal}
use Rattle.flutejoin.specs.Laws.{IsMinus}
use Rattle.flutejoin.specs.declared.limits.TheConstants.{MAX_ENTRIES}
use Rattle.flutejoin.proofs.join_lemmas.JoinTrees.{OneReading, all_taken, same_chosen, tell_same}
use Rattle.flutejoin.proofs.join_lemmas.JoinTrees.{wrote}
use Rattle.flutejoin.proofs.join_lemmas.Receptions.{Below-left, IsJournal-from_within, Journal-only}
use Rattle.flutejoin.proofs.join_lemmas.Receptions.{Same-from_journals}

-- a journal is no datagram file
no_file : (bytes : List ℕ) (facts : List Fact) (datagrams : List (List ℕ)) → IsJournal bytes facts
    → IsFileWithin MAX_ENTRIES bytes datagrams → ⊥
no_file bytes facts datagrams (One, j) f =
    let third = ap (λ l. slice_index l 2) (sym j.3 ∙ f.bytes_are) in
    omega (arith, third)
no_file bytes facts datagrams (Two, j) f =
    let third = ap (λ l. slice_index l 2) (sym j.3 ∙ f.bytes_are) in
    omega (arith, third)

-- what a journal among the inputs contains
pub told_journal : (choice : Choice) (bytes : List ℕ) (facts : List Fact) (content : InputContent)
    → IsJournal bytes facts → Tells bytes content
    → Same (content_facts choice content) (chosen choice.takes facts)
told_journal choice bytes facts (of_journal entries) is tells = same_chosen choice.takes _ _
    (Same-from_journals _ _ _ (IsJournal-from_within _ _ tells) is)
told_journal _ bytes facts (of_file datagrams) is tells = absurd (no_file _ _ _ is tells)

-- two journals, of these facts
record AreJournals (first second : List ℕ) (F G : List Fact) : Type 0 where
  pub of_first : IsJournal first F
  pub of_second : IsJournal second G

-- two journals and others contain the facts of the two, and what the others contain
record TwoTold (choice : Choice) (F : List Fact) (others : List (List ℕ))
    (told : List InputContent) : Type 0 where
  pub rest : List InputContent
  pub tell : TellAll others rest
  pub same : Same (flat_map (content_facts choice) told)
      (chosen choice.takes F ++ flat_map (content_facts choice) rest)

two_told : (choice : Choice) {first second : List ℕ} {F G : List Fact} (others : List (List ℕ))
    (told : List InputContent) → AreJournals first second F G
    → TellAll (first ∷ second ∷ others) told → TwoTold choice (F ++ G) others told
unfolding TellAll
two_told _ _ [] _ tell = elim tell [ ]
two_told _ _ (x ∷ []) _ tell = elim tell.1 [ ]
two_told choice {first} {second} {F} {G} _ (x ∷ y ∷ rest) are tell =
    let a = told_journal choice _ F x are.of_first tell.0 in
    let b = told_journal choice _ G y are.of_second tell.1.0 in
    let taken = λ (l : List Fact). chosen choice.takes l in
    let c = flat_map (content_facts choice) rest in
    let both = Same-append _ _ _ _ a (Same-append _ _ c c b (Same-itself c)) in
    let is = sym (append_assoc (taken F) (taken G) c) ∙ ap (λ l. l ++ c) (sym (filter-append _ F G))
    in record { rest = rest; tell = tell.1.1; same = rw (← is) both }

-- what `minus` read and wrote
module _ {first second missing : List ℕ} {count : ℕ} (h : IsMinus first second missing count) where
  abbrev facts_of : List Fact
  facts_of = h.writes.facts

  abbrev held_of : List Fact
  held_of = h.writes.held

  first_is : IsJournal first facts_of
  first_is = IsJournal-from_within _ _ h.writes.first_is

  second_is : IsJournal second held_of
  second_is = IsJournal-from_within _ _ h.writes.second_is

  missing_is : IsJournal missing (minus facts_of held_of)
  missing_is =
      let is = append_cancel_left h.before missing h.writes.writes.bytes h.writes.writes.appended in
      written_journal _ _ (rw (← is) at h.writes.writes.journal)

  -- of nothing there are no entries
  none_written : minus facts_of held_of ≡ [] → count ≡ 0
  none_written none =
      let j = h.writes.writes.journal in
      let same = Same-sym [] _ (rw (← none) j.1.same) in
      h.writes.writes.entries ∙ ap length (rising_unique _ [] j.1.rising tt same)

-- a join with what is missing changes facts as one with all of them
abbrev pub IsEnough : Type 0
IsEnough = (facts held : List Fact) → Same (held ++ minus facts held) (held ++ facts)

-- of what is held nothing is missing
abbrev pub IsHeld : Type 0
IsHeld = (facts held : List Fact) → Below facts held → minus facts held ≡ []

pub none_missing : {first second missing : List ℕ} {count : ℕ} → IsHeld → (facts held : List Fact)
    → IsMinus first second missing count → IsJournal first facts → IsJournal second held
    → Below facts held → count ≡ 0
none_missing {first} {second} is_held facts held h f s below =
    let F = facts_of h in
    let G = held_of h in
    let more = Below-trans F _ _ (Below-from_Same F _ (Same-from_journals _ F _ (first_is h) f))
    below in none_written h (is_held F G
    (Below-trans F _ G more (Below-from_Same _ G (Same-from_journals _ _ G s (second_is h)))))

-- what is joined after a journal may be any with which its facts have the same values
module _ (one : OneReading) (choice : Choice) {second missing first bs cs : List ℕ}
    (G M : List Fact) where
  pub alike : (F : List Fact) (others : List (List ℕ)) → IsJournal second G → IsJournal missing M
      → IsJournal first F → Same (G ++ M) (G ++ F) → Joined choice (second ∷ missing ∷ others) bs
      → Joined choice (second ∷ first ∷ others) cs → bs ≡ cs
  alike F others s m f same j k =
      let all = λ (told : List InputContent). flat_map (content_facts choice) told in
      let x = two_told choice _ _ (record { of_first = s; of_second = m }) j.2.tell in
      let y = two_told choice _ _ (record { of_first = s; of_second = f }) k.2.tell in
      let between = Same-append _ _ _ _ (same_chosen choice.takes _ _ same)
      (tell_same one choice _ _ _ x.tell y.tell) in Journal-only _ _ _ _
      (Same-trans _ _ _ x.same (Same-trans _ _ _ between (Same-sym _ _ y.same))) (wrote one _ _ _ j)
      (wrote one _ _ _ k)

module _ (one : OneReading) (enough : IsEnough) where
  pub joined_alike : {first second missing : List ℕ} {count : ℕ} (choice : Choice) (bs cs : List ℕ)
      (others : List (List ℕ)) → IsMinus first second missing count → Joined choice
      (second ∷ missing ∷ others) bs → Joined choice (second ∷ first ∷ others) cs → bs ≡ cs
  joined_alike choice bs cs others h j k =
      let F = facts_of h in
      let G = held_of h in
      alike one _ G _ F _ (second_is h) (missing_is h) (first_is h) (enough F G) j k

  pub none_missing_after : {first second missing again : List ℕ} {count number : ℕ} → IsHeld
      → (choice : Choice) (joined : List ℕ) → ((key : Key) → choice.takes key ≡ true)
      → IsMinus first second missing count → Joined choice (second ∷ missing ∷ []) joined
      → IsMinus first joined again number → number ≡ 0
  none_missing_after {second} {missing} is_held choice joined all h j k =
      let F = facts_of h in
      let G = held_of h in
      let M = G ++ minus F G in
      let told = flat_map (content_facts choice) j.2.told in
      let x = two_told choice [] _
      (record { of_first = second_is h; of_second = missing_is h }) j.2.tell in
      let rest = flat_map (content_facts choice) x.rest in
      let same = Same-trans _ _ _
      x.same (Same-append _ M rest _ (all_taken _ all M)
      (Same-itself _)) in
      let in_M = Below-trans F _ M (right F G)
      (Below-from_Same _ M (Same-sym M _ (enough F G))) in
      let below = Below-trans F M _ in_M (Below-trans M _ _
      (Below-left M _) (Below-from_Same _ _ (Same-sym _ _ same))) in
      none_missing is_held F _ k (first_is h)
      (written_journal _ _ (wrote one _ _ _ j)) below
    where
      right : (A B : List Fact) → Below A (B ++ A)
      right A B = Below-trans A _ _ (Below-left A B)
          (Below-from_Same _ _ (Same-swap A B))
