-- An answer to the asker's own lines of gaps is enough (specs/OwnGaps).
use Rattle.std.proofs.Common.{◌≡◌, ℕ, Bool, true, false, cond, not, List, [], ◌∷◌, refl, sym, ap, ◌∙◌}
use Rattle.std.proofs.Common.{subst, inl, inr, ◌⊎◌, Option, None, Some, map}
use Rattle.std.specs.Prelude.{Contains, filter}
use Rattle.std.specs.List.{list_any, AllByRecursion}
use Rattle.std.proofs.lemmas.Bool.{cases_Bool, false≢true}
use Rattle.std.proofs.lemmas.List.{append_cancel_left}
use Rattle.flute_parts.specs.Addresses.{address, info_address}
use Rattle.flute_parts.specs.Facts.{Below, fact_at}
use Rattle.flute_parts.specs.Ranges.{IsFact}
use Rattle.flute_parts.specs.declared.address.Part.{Part}
use Rattle.flute_parts.specs.declared.address.Part.TheVariants.{Info as InfoPart}
use Rattle.flute_parts.specs.declared.address.Part.TheVariants.{Symbol as SymbolPart}
use Rattle.flute_parts.specs.declared.fact.Fact.{Fact}
use Rattle.flute_parts.specs.declared.fact.Fact.TheVariants.{Info, InfoConflict, Symbol}
use Rattle.flute_parts.specs.declared.fact.Fact.TheVariants.{SymbolConflict}
use Rattle.flute_parts.specs.declared.key.Key.{Key}
use Rattle.flute_parts.proofs.Public.{rising_unique}
use Rattle.flute_journal.specs.Journal.{IsJournalWithin}
use Rattle.flute_journal.proofs.Public.{all_map}
use Rattle.flute_streams.specs.Compared.{AreRows, differs}
use Rattle.flute_streams.specs.Selections.{selects}
use Rattle.flutejoin.specs.Compare.{ComparesJournals}
use Rattle.flutejoin.specs.CompareLines.{are_same}
use Rattle.flutejoin.specs.FillLists.{IsListing, asks}
use Rattle.flutejoin.specs.JoinTrees.{Joined}
use Rattle.flutejoin.specs.Joined.{Choice}
use Rattle.flutejoin.specs.Laws.{HaveTheRest}
use Rattle.flutejoin.specs.OwnGaps.{AreAlike, AreHeldOrAsked, AreWithin, AsksFor}
use Rattle.flutejoin.specs.OwnGaps.{IsAnswerTo, IsAsked, IsGaps, IsWithin, information_for}
use Rattle.flutejoin.specs.Selected.{selected}
use Rattle.flutejoin.specs.Told.{told_of}
use Rattle.flutejoin.specs.declared.fill.asking.Asking.TheVariants.{All as AskAll}
use Rattle.flutejoin.specs.declared.fill.listed_line.ListedLine.{ListedLine}
use Rattle.flutejoin.specs.declared.limits.TheConstants.{MAX_ENTRIES}
use Rattle.flutejoin.proofs.PickedFacts.{rising_picked}
use Rattle.flutejoin.proofs.fill_lemmas.Enough.{joined_by}
use Rattle.flutejoin.proofs.fill_lemmas.NothingDiffers.{lacked_or_held}
use Rattle.flutejoin.proofs.fill_lemmas.OneListing.{one_listing}
use Rattle.flutejoin.proofs.fill_lemmas.OwnGaps.{asked_of}
use Rattle.flutejoin.proofs.fill_lemmas.PrintedLines.{IsSound, filter_all, lines_of, printed_text}
use Rattle.flutejoin.proofs.fill_lemmas.PrintedLines.{told_listing}
use Rattle.flutejoin.proofs.join_lemmas.JoinTrees.{OneReading}
use Rattle.flutejoin.proofs.join_lemmas.Receptions.{IsJournal-from_within, Same-from_journals}

-- ---- journals

same_entries : (bytes : List ℕ) (F G : List Fact) → IsJournalWithin MAX_ENTRIES bytes F
    → IsJournalWithin MAX_ENTRIES bytes G → F ≡ G
same_entries bytes F G j k = rising_unique F G j.are_items.in_order k.are_items.in_order
    (Same-from_journals _ F G (IsJournal-from_within _ F j) (IsJournal-from_within _ G k))

valid_picked : (p : Fact → Bool) (F : List Fact) → AllByRecursion IsFact F
    → AllByRecursion IsFact (filter p F)
valid_picked p [] h = tt
valid_picked p (f ∷ F) h = elim (cases_Bool (p f)) [
  | inl e ↦ rw e (h.0, valid_picked p F h.1)
  | inr e ↦ rw e (valid_picked p F h.1)
]

sound_picked : (p : Fact → Bool) (bytes : List ℕ) (F : List Fact)
    → IsJournalWithin MAX_ENTRIES bytes F → IsSound (filter p F)
sound_picked p _ F j = record {
  rising = rising_picked p F j.are_items.in_order;
  valid = valid_picked p F (all_map _ _ F (λ f is. is.0) j.are_items.valid);
}

picked_same : (p q : Fact → Bool) → ((f : Fact) → p f ≡ q f) → (F : List Fact)
    → filter p F ≡ filter q F
picked_same p q h [] = refl
picked_same p q h (f ∷ F) = ap (λ b. cond b (f ∷ filter p F) (filter p F)) (h f) ∙ ap
    (λ l. cond (q f) (f ∷ l) l) (picked_same p q h F)

-- ---- the lines

-- what was printed of a journal is one listing, by which what its facts ask for is asked for
pub record IsOwn (asker lines : List ℕ) : Type 0 where
  pub listed : List ListedLine
  pub listing : IsListing lines listed
  pub only : (others : List ListedLine) → IsListing lines others → others ≡ listed
  pub asks_all : (held : List Fact) (f : Fact) → IsJournalWithin MAX_ENTRIES asker held
      → AsksFor held f → asks AskAll listed f ≡ true

pub own : (asker lines : List ℕ) → IsGaps asker lines → IsOwn asker lines
own asker lines h =
    let t = h.lists.told in
    let sound = sound_picked h.picks _ _ h.lists.journal in
    let text = append_cancel_left h.before lines _ h.lists.so ∙ printed_text _ _ h.plain in
    let is = told_listing _ sound _ _ t text in
    record {
      listed = lines_of h.lists.objects;
      listing = is;
      only = λ others k. one_listing _ _ _ k is;
      asks_all = λ held f j is. let same = same_entries _ _ _ j h.lists.journal in
          let picked = picked_same _ _ h.takes_objects.by_key _ in
          rw t.told (subst (λ F. asks AskAll (lines_of (map (told_of F) t.keys)) f ≡ true)
          (sym picked) (asked_of h.takes_objects.takes_key _ _ f (subst (λ F. AsksFor F f) same is)));
    }

-- ---- the answer

-- what nothing is held of is asked for, but outside a partition that is known
lacked_by : (key : Key) (part : Part) (held : List Fact) (o : Option Fact)
    → fact_at held (info_address key) ≡ o → fact_at held (record { key = key; part = part }) ≡ None
    → IsWithin o part → IsAsked o (fact_at held (record { key = key; part = part })) part
lacked_by _ _ _ None e _ _ = tt
lacked_by key InfoPart held (Some f) e none within = absurd cc
lacked_by _ (SymbolPart id) _ (Some (Info k info)) e none within = (none, within)
lacked_by _ (SymbolPart id) _ (Some (InfoConflict k)) e _ _ = refl
lacked_by _ (SymbolPart id) _ (Some (Symbol k i b)) e _ _ = refl
lacked_by _ (SymbolPart id) _ (Some (SymbolConflict k i)) e _ _ = refl

lacked : (held : List Fact) (f : Fact) → fact_at held (address f) ≡ None
    → IsWithin (information_for held f) (address f).part → AsksFor held f
lacked held f none within = lacked_by _ _ _ _ refl none within

module _ (one : OneReading) (choice : Choice) (asker journal answer bs cs : List ℕ)
    (others : List (List ℕ)) (h : IsAnswerTo asker journal answer) where
  pub own_enough : (held facts : List Fact) → IsJournalWithin MAX_ENTRIES asker held
      → IsJournalWithin MAX_ENTRIES journal facts
      → AreHeldOrAsked held facts → Joined choice (asker ∷ answer ∷ others) bs
      → Joined choice (asker ∷ journal ∷ others) cs → bs ≡ cs
  own_enough held facts s t each j k =
      joined_by one choice AskAll bs cs others held (IsJournal-from_within asker held s) h.answer rest
      j k
    where
      o : IsOwn asker h.lines
      o = own asker h.lines h.gaps

      listed : List ListedLine
      listed = h.answer.writes.listed

      same : listed ≡ o.listed
      same = o.only listed h.answer.writes.lines_are

      rest : HaveTheRest AskAll listed h.answer.writes.facts held
      rest f c n = held_of (each f (subst (λ F. Contains F f)
          (same_entries journal h.answer.writes.facts facts h.answer.writes.journal_is t) c))
        where
          held_of : Below (f ∷ []) held ⊎ AsksFor held f → Below (f ∷ []) held
          held_of (inl below) = below
          held_of (inr is) =
              absurd (false≢true (sym n ∙ ap (λ l. asks AskAll l f) same ∙ o.asks_all held f s is))

  pub alike_enough : (held facts : List Fact) → AreAlike asker journal
      → IsJournalWithin MAX_ENTRIES asker held → IsJournalWithin MAX_ENTRIES journal facts
      → AreWithin held facts → Joined choice (asker ∷ answer ∷ others) bs
      → Joined choice (asker ∷ journal ∷ others) cs → bs ≡ cs
  alike_enough held facts alike s t within j k = own_enough held facts s t each j k
    where
      c : ComparesJournals alike.choice alike.other (Some asker) (Some journal)
          (λ rows. are_same rows ≡ true)
      c = alike.compares

      rows : AreRows held facts c.rows
      rows = subst (λ F. AreRows F facts c.rows)
          (filter_all (selects alike.choice) alike.all c.facts
          ∙ same_entries asker c.facts held c.first_is s)
          (subst (λ F. AreRows (selected alike.choice c.facts) F c.rows)
          (filter_all (selects alike.other) alike.others c.others
          ∙ same_entries journal c.others facts c.second_is t) c.are)

      none : list_any differs c.rows ≡ false
      none = not_any (list_any differs c.rows) c.so
        where
          not_any : (b : Bool) → not b ≡ true → b ≡ false
          not_any true e = absurd (false≢true e)
          not_any false e = refl

      each : AreHeldOrAsked held facts
      each f m = elim (lacked_or_held held facts s.are_items.in_order t.are_items.in_order c.rows rows
          none f m) [
            | inl n ↦ inr (lacked held f n (within f m n))
            | inr b ↦ inl b
          ]
