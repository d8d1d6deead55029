-- Joins of journals that joins wrote (specs/JoinTrees).
use Rattle.std.proofs.Common.{rules}
use Rattle.std.proofs.Common.{◌≡◌, ℕ, List, [], ◌∷◌, None, inl, inr, refl, sym, ap}
use Rattle.std.proofs.Common.{◌∙◌, arith}
use Rattle.std.specs.Prelude.{slice_index, Bool, true, false}
use Rattle.std.specs.List.{flat_map}
use Rattle.std.proofs.lemmas.Bool.{cases_Bool, false≢true}
use Rattle.std.proofs.lemmas.List.{append_cancel_left}
use Rattle.flute_parts.specs.declared.address.Address.{Address}
use Rattle.flute_parts.specs.declared.fact.Fact.{Fact}
use Rattle.flute_parts.specs.declared.key.Key.{Key}
use Rattle.flute_parts.specs.Addresses.{address}
use Rattle.flute_parts.specs.Facts.{fact_at, Same}
use Rattle.flute_parts.specs.Order.{same_address}
use Rattle.flute_parts.proofs.Public.{alone, fact_at-cons, fact_at-elsewhere, fact_at-nil, joined}
use Rattle.flute_parts.proofs.Public.{Same-append, Same-itself, Same-sym, Same-trans}
use Rattle.flute_journal.specs.Journal.{IsJournal, IsJournalWithin, Journal}
use Rattle.flute_journal.specs.Records.{IsFileOf, IsFileWithin}
use Rattle.flute_streams.specs.Scopes.{is_chosen, chosen}
use Rattle.flute_journal.proofs.Public.{written_journal}
use Rattle.flutejoin.specs.Joined.{Choice, InputContent, of_journal, of_file, content_facts, Tells}
use Rattle.flutejoin.specs.Joined.{TellAll}
use Rattle.flutejoin.specs.JoinTrees.{Joined, Inputs, none, leaf, node, bytes_of, AreMade}
use Rattle.flutejoin.specs.JoinTrees.{leaf_facts}
use Rattle.flutejoin.specs.declared.limits.TheConstants.{MAX_ENTRIES}
use Rattle.flutejoin.proofs.join_lemmas.Receptions.{IsJournal-from_within, Journal-only}
use Rattle.flutejoin.proofs.join_lemmas.Receptions.{Same-from_journals}

-- The values of facts at the addresses of the objects that are taken.

module _ (takes : Key → Bool) (a : Address) where
  of_address : (f : Fact) → same_address (address f) a ≡ true → is_chosen takes f ≡ takes a.key
  of_address f e = search rules

  pub taken_at : (F : List Fact) → takes a.key ≡ true → fact_at (chosen takes F) a ≡ fact_at F a
  taken_at [] t = refl
  taken_at (f ∷ F) t = elim (cases_Bool (is_chosen takes f)) [
    | inl c ↦ rw c (fact_at-cons f (chosen takes F) a
        ∙ ap (joined a (alone a f)) (taken_at F t) ∙ sym (fact_at-cons f F a))
    | inr c ↦ rw c (elim (cases_Bool (same_address (address f) a)) [
      | inl e ↦ absurd (false≢true (sym c ∙ of_address f e ∙ t))
      | inr e ↦ taken_at F t ∙ sym (fact_at-elsewhere f F a e)
    ])
  ]

  pub passed_at : (F : List Fact) → takes a.key ≡ false → fact_at (chosen takes F) a ≡ None
  passed_at [] t = fact_at-nil a
  passed_at (f ∷ F) t = elim (cases_Bool (is_chosen takes f)) [
    | inl c ↦ rw c (elim (cases_Bool (same_address (address f) a)) [
      | inl e ↦ absurd (false≢true (cc (of_address f e)))
      | inr e ↦ fact_at-elsewhere f (chosen takes F) a e ∙ passed_at F t
    ])
    | inr c ↦ rw c (passed_at F t)
  ]

pub same_chosen : (takes : Key → Bool) (F G : List Fact) → Same F G
    → Same (chosen takes F) (chosen takes G)
same_chosen takes F G h = record {
  each = λ a. elim (cases_Bool (takes a.key)) [
    | inl t ↦ taken_at takes a F t ∙ h.each a ∙ sym (taken_at takes a G t)
    | inr t ↦ passed_at takes a F t ∙ sym (passed_at takes a G t)
  ];
}

pub all_taken : (takes : Key → Bool) → ((key : Key) → takes key ≡ true) → (F : List Fact)
    → Same (chosen takes F) F
all_taken takes all F = record { each = λ a. taken_at takes a F (all a.key) }

-- An input contains one thing: it is not both a journal and a datagram file.

not_both : (bytes : List ℕ) (entries : List Fact) (datagrams : List (List ℕ))
    → IsJournalWithin MAX_ENTRIES bytes entries → IsFileWithin MAX_ENTRIES bytes datagrams → ⊥
not_both bytes entries datagrams j f = search rules

file_of : (bytes : List ℕ) (datagrams : List (List ℕ)) → IsFileWithin MAX_ENTRIES bytes datagrams
    → IsFileOf bytes datagrams
file_of bytes datagrams f = search rules

-- a datagram file has one reading
abbrev pub OneReading : Type 0
OneReading = (bs : List ℕ) (ds es : List (List ℕ)) → IsFileOf bs ds → IsFileOf bs es → ds ≡ es

module _ (one : OneReading) where
  tells_same : (choice : Choice) (bytes : List ℕ) (x y : InputContent) → Tells bytes x
      → Tells bytes y → Same (content_facts choice x) (content_facts choice y)
  tells_same choice bytes (of_journal es) (of_journal fs) h k = same_chosen choice.takes _ _
      (Same-from_journals _ _ _ (IsJournal-from_within _ _ h) (IsJournal-from_within _ _ k))
  tells_same _ bytes (of_journal es) (of_file ds) h k = absurd (not_both _ _ _ h k)
  tells_same _ bytes (of_file ds) (of_journal es) h k = absurd (not_both _ _ _ k h)
  tells_same choice bytes (of_file ds) (of_file es) h k =
      rw (← one bytes ds es (file_of _ _ h) (file_of _ _ k)) (Same-itself _)

  pub tell_same : (choice : Choice) (inputs : List (List ℕ)) (told further : List InputContent)
      → TellAll inputs told → TellAll inputs further
      → Same (flat_map (content_facts choice) told) (flat_map (content_facts choice) further)
  unfolding TellAll
  tell_same _ [] [] [] h k = Same-itself []
  tell_same _ [] [] (y ∷ ys) h k = elim k [ ]
  tell_same _ [] (x ∷ xs) ys h k = elim h [ ]
  tell_same _ (bytes ∷ inputs) [] ys h k = elim h [ ]
  tell_same _ (bytes ∷ inputs) (x ∷ xs) [] h k = elim k [ ]
  tell_same choice (bytes ∷ inputs) (x ∷ xs) (y ∷ ys) h k = search
      (rules, Same-append, tells_same, tell_same choice inputs xs ys h.1 k.1)

  -- The journal that a join wrote.

  abbrev facts_told : Choice → List InputContent → List Fact
  facts_told choice told = flat_map (content_facts choice) told

  pub wrote : (choice : Choice) (inputs : List (List ℕ)) (bytes : List ℕ)
      → (j : Joined choice inputs bytes) → Journal bytes (facts_told choice j.2.told)
  wrote choice _ bytes j =
      let is = append_cancel_left j.1 bytes j.2.writes.bytes j.2.writes.appended in
      rw is j.2.writes.journal

  -- inputs that tell this were joined into these bytes
  pub record JoinedAs (choice : Choice) (inputs : List (List ℕ)) (told : List InputContent)
      (bytes : List ℕ) : Type 0 where
    pub tell : TellAll inputs told
    pub joined : Joined choice inputs bytes

  pub wrote_told : {choice : Choice} {inputs : List (List ℕ)} {told : List InputContent}
      {bytes : List ℕ} → JoinedAs choice inputs told bytes
      → (facts : List Fact) × Journal bytes facts × Same facts (facts_told choice told)
  wrote_told {choice} {inputs} {told} {bytes} j = (
    facts_told choice j.joined.2.told,
    wrote choice
        inputs _ j.joined,
    tell_same choice _ _ _ j.joined.2.tell j.tell,
  )

  pub same_bytes : {a b : Choice} {inputs others : List (List ℕ)} {told further : List InputContent}
      {bs cs : List ℕ} → JoinedAs a inputs told bs → JoinedAs b others further cs → Same
      (facts_told a told) (facts_told b further) → bs ≡ cs
  same_bytes {a} {b} {told} {further} {bs} {cs} j l same =
      let x = wrote_told j in
      let y = wrote_told l in
      Journal-only _ _ _ _ (Same-trans _ _ _ x.2 (Same-trans _ _ _ same (Same-sym _ _ y.2))) x.1 y.1

  -- the written journal contains the facts of the inputs that were joined
  pub read_same : {choice : Choice} {inputs : List (List ℕ)} {told : List InputContent}
      {bytes : List ℕ} {held : List Fact} → JoinedAs choice inputs told bytes
      → IsJournal bytes held → Same held (facts_told choice told)
  read_same {choice} {told} {bytes} {held} j is =
      let x = wrote_told j in
      Same-trans _ _ _ (Same-from_journals _ _ _ is (written_journal _ _ x.1)) x.2

  -- Trees of joins.

  made_same : (choice : Choice) (inputs : Inputs) (told : List InputContent) → AreMade inputs
      → TellAll (bytes_of inputs) told → Same (facts_told choice told) (leaf_facts choice inputs)
  unfolding TellAll
  made_same choice none [] h k = Same-itself []
  made_same choice none (x ∷ xs) h k = elim k [ ]
  made_same choice (leaf bytes content others) [] h k = elim k [ ]
  made_same choice (leaf bytes content others) (x ∷ xs) h k = Same-append (content_facts choice x)
      (content_facts choice content) (facts_told choice xs) (leaf_facts choice others)
      (tells_same choice bytes x content k.0 h.0) (made_same choice others xs h.1 k.1)
  made_same choice (node bytes own below others) [] h k = elim k [ ]
  made_same choice (node bytes own below others) (of_file ds ∷ xs) h k =
      absurd (no_file (wrote own (bytes_of below) bytes h.0))
    where
      no_file : Journal bytes (facts_told own h.0.2.told) → ⊥
      no_file j =
          let third : 0x4A ≡ 0x44 = ap (λ l. slice_index l 2) (sym j.3 ∙ k.0.bytes_are) in
          omega (arith, third)
  made_same choice (node bytes own below others) (of_journal es ∷ xs) h k =
      let j = h.0.2 in
      let below_is : Same (facts_told own j.told) (leaf_facts own below) =
      made_same own below j.told h.1 j.tell in
      let read : Same es (facts_told own j.told) =
      Same-from_journals bytes es (facts_told own j.told) (IsJournal-from_within bytes es k.0)
      (written_journal bytes (facts_told own j.told) (wrote own (bytes_of below) bytes h.0)) in
      Same-append (chosen choice.takes es) (chosen choice.takes (leaf_facts own below))
      (facts_told choice xs) (leaf_facts choice others)
      (same_chosen choice.takes es (leaf_facts own below)
      (Same-trans es (facts_told own j.told) (leaf_facts own below) read below_is))
      (made_same choice others xs h.2 k.1)

  -- inputs, each a leaf or made by joins, were joined into these bytes
  pub record IsTree (choice : Choice) (inputs : Inputs) (bytes : List ℕ) : Type 0 where
    pub made : AreMade inputs
    pub joined : Joined choice (bytes_of inputs) bytes

  pub same_trees : {a b : Choice} {inputs others : Inputs} {bs cs : List ℕ} → IsTree a inputs bs
      → IsTree b others cs → Same (leaf_facts a inputs) (leaf_facts b others) → bs ≡ cs
  same_trees {a} {b} {inputs} {others} {bs} {cs} h k same =
      let j = h.joined in
      let l = k.joined in
      let F = facts_told a j.2.told in
      let G = facts_told b l.2.told in
      let x = made_same a _ _ h.made j.2.tell in
      let y = made_same b _ _ k.made l.2.tell in
      Journal-only _ _ F G (Same-trans F _ G x (Same-trans _ _ G same (Same-sym G _ y)))
      (wrote a _ _ j) (wrote b _ _ l)
