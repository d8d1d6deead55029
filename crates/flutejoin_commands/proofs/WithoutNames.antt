-- What a join without listed objects did with opened inputs, stated of the names that were opened
-- (specs/Named).
use Rattle.std.proofs.Common.{◌≡◌, ◌⊎◌, ℕ, ◌+◌, List, [], ◌∷◌, ◌++◌, length, Option, Some, None}
use Rattle.std.proofs.Common.{Result, Ok, Err, IfErr, inl, inr, refl, sym, subst, zero, suc, rules}
use Rattle.std.specs.Prelude.{Bool, true, not, OnOk, IfSome, is_some, slice_get}
use Rattle.std.specs.Borrow.{Bor}
use Rattle.std.specs.Option.{option_map}
use Rattle.std.specs.BTreeSet.{BTreeSet}
use Rattle.flute_journal.specs.declared.fault.ReadFault.TheVariants.{Read}
use Rattle.flute_parts.specs.declared.key.Key.{Key}
use Rattle.flute_streams.specs.Scopes.{is_all}
use Rattle.flutejoin.specs.JoinFaults.{NamesOneOf}
use Rattle.flutejoin.specs.Joined.{Choice}
use Rattle.flutejoin.specs.KeyLists.{KeyListFails, ListNames}
use Rattle.flutejoin.specs.declared.join.join_input.JoinInput.{JoinInput}
use Rattle.flutejoin.specs.declared.join.join_counts.JoinCounts.{JoinCounts}
use Rattle.flutejoin.specs.declared.command_fault.CommandFault.{CommandFault}
use Rattle.flutejoin.specs.declared.command_fault.CommandFault.TheVariants.{CannotOpen, Input}
use Rattle.flutejoin.specs.declared.command_fault.CommandFault.TheVariants.{OutOfMemory}
use Rattle.flutejoin_commands.specs.Deeds.{joins_by}
use Rattle.flutejoin_commands.specs.Files.{Files, HasBytes, IsNoFile}
use Rattle.flutejoin_commands.specs.Named.{IsBefore, JoinsWithoutNames, JoinWithoutFails, OfContents}
use Rattle.flutejoin_commands.specs.Named.{OfText, names_of}
use Rattle.flutejoin_commands.specs.Opened.{AreOpened, FirstNotOpened, IsListOpened, IsNotOpened}
use Rattle.flutejoin_commands.specs.Opened.{IsListUnopened, names_with}
use Rattle.flutejoin_commands.specs.Works.{JoinsAll, JoinAllFails, JoinReadFails, JoinsListed}
use Rattle.flutejoin_commands.specs.Works.{JoinsBy, JoinByFails, JoinListedFails, JoinsRead}
use Rattle.flutejoin_commands.specs.Works.{join_choice, join_lines, tells_others}
use Rattle.flutejoin_commands.specs.Worlds.{FailsToLeave, Leaves, Outside, TellsAsides}
use Rattle.flutejoin_commands.proofs.OfNames.{are_inputs, contents_of, fails_told, leaves_told}
use Rattle.flutejoin_commands.proofs.OfNames as all
use Rattle.flutejoin_line.specs.declared.join_line.JoinLine.{JoinLine}

-- Q of what a name has, where P of what was read of it
text_of : (files : Files) (name : List ℕ) (known : Option (List ℕ))
    → HasBytes (Some files) name known → (P Q : List ℕ → Type 0)
    → ((text : List ℕ) → P text → Q text) → IfSome known P → OfText files name Q
text_of files name None at P Q f p = absurd (search rules)
text_of files name (Some text) at P Q f p = (text, sym at.0, f text p)

module _ {R : Type 0} (unread : R → Option (List ℕ)) (tells : Bool) (line : JoinLine)
    (opened : List (JoinInput R)) where
  -- what was joined, or why not, of one choice
  module _ (files : Files) (h : AreOpened (Some files) unread (names_of line) opened)
      (is : TellsAsides (Some files) tells) (choice : Choice) where
    all_joined : (counts : JoinCounts) (old new : Option (List ℕ))
        → JoinsAll unread tells choice opened counts old new
        → OfContents files (names_of line) (λ contents. JoinsRead choice contents counts old new)
    all_joined counts old new j =
        let had = contents_of files unread (names_of line) opened h.as_many h.each in
        (had.0, had.1, j is had.0 (are_inputs unread opened had.0 had.2))

    not_all : (fault : CommandFault) → JoinAllFails unread tells choice opened fault
        → OfContents files (names_of line) (λ contents. JoinReadFails choice contents fault)
    not_all fault j =
        let had = contents_of files unread (names_of line) opened h.as_many h.each in
        (had.0, had.1, j.0 is had.0 (are_inputs unread opened had.0 had.2))

  module _ (list : List ℕ) (known : Option (List ℕ)) where
    without_told : (files : Option Files) → AreOpened files unread (names_of line) opened
        → HasBytes files list known → TellsAsides files tells
        → (counts : JoinCounts) (old new : Option (List ℕ))
        → JoinsListed unread tells (join_choice line) known opened counts old new
        → JoinsWithoutNames files line list counts old new
    without_told None h l is counts old new j = tt
    without_told (Some files) h l is counts old new j = text_of files list known l
        (λ text. (keys : BTreeSet Key) × ListNames text keys
        × JoinsAll unread tells (join_choice line (Some keys)) opened counts old new)
        (λ text. (keys : BTreeSet Key) × ListNames text keys × OfContents files (names_of line)
        (λ contents. JoinsRead (join_choice line (Some keys)) contents counts old new))
        (λ text k. (k.0, k.1, all_joined files h is (join_choice line (Some k.0)) counts old new k.2))
        j

    why_told : (files : Option Files) → AreOpened files unread (names_of line) opened
        → HasBytes files list known → TellsAsides files tells → (fault : CommandFault)
        → (fault ≡ Input (length opened + 1) Read)
        ⊎ (IfSome known (λ text. KeyListFails text fault)
        ⊎ IfSome known (λ text. (keys : BTreeSet Key) × ListNames text keys
        × JoinAllFails unread tells (join_choice line (Some keys)) opened fault))
        → NamesOneOf (length (names_of line) + 1) fault → JoinWithoutFails files line list fault
    why_told files h l is fault (inl read) of = inr
        (inl (subst (λ n. fault ≡ Input (n + 1) Read) h.as_many read), of)
    why_told None h l is fault (inr (inl bad)) of = inr (inr (inl tt), of)
    why_told None h l is fault (inr (inr fails)) of = inr (inr (inr tt), of)
    why_told (Some files) h l is fault (inr (inl bad)) of = inr (
      inr (inl (text_of files list known l (λ text. KeyListFails text fault)
          (λ text. KeyListFails text fault) (λ text k. k) bad)),
      of,
    )
    why_told (Some files) h l is fault (inr (inr fails)) of = inr (
      inr (inr (text_of files list known l
          (λ text. (keys : BTreeSet Key) × ListNames text keys
          × JoinAllFails unread tells (join_choice line (Some keys)) opened fault)
          (λ text. (keys : BTreeSet Key) × ListNames text keys × OfContents files (names_of line)
          (λ contents. JoinReadFails (join_choice line (Some keys)) contents fault))
          (λ text k. (k.0, k.1, not_all files h is (join_choice line (Some k.0)) fault k.2))
          fails)),
      of,
    )

    module _ (files : Option Files) (h : AreOpened files unread (names_of line) opened)
        (l : HasBytes files list known) (is : TellsAsides files tells) where
      abbrev listed : JoinCounts → Option (List ℕ) → Option (List ℕ) → Type 0
      listed = JoinsListed unread tells (join_choice line) known opened

      abbrev fails : CommandFault → Type 0
      fails = JoinListedFails unread tells (join_choice line) known opened

      fault_told : (fault : CommandFault) → fails fault → JoinWithoutFails files line list fault
      fault_told fault j = why_told files h l is fault j.0
          (subst (λ n. NamesOneOf (n + 1) fault) h.as_many j.1)

      module _ (name : List ℕ) (old new : Outside) where
        joined : (lines : JoinCounts → List ℕ) (r : Result (Unit {0}) CommandFault)
            → OnOk r (Leaves listed listed lines name old new)
            → OnOk r (Leaves (JoinsWithoutNames files line list)
            (JoinsWithoutNames files line list) lines name old new)
        joined lines (Ok u) j =
            leaves_told listed listed (JoinsWithoutNames files line list)
            (JoinsWithoutNames files line list) (without_told files h l is)
            (without_told files h l is) name lines old new j
        joined lines (Err e) j = tt

        not_joined : (r : Result (Unit {0}) CommandFault)
            → IfErr r (FailsToLeave listed fails name old new)
            → IfErr r (FailsToLeave (JoinsWithoutNames files line list)
            (JoinWithoutFails files line list) name old new)
        not_joined (Ok u) j = tt
        not_joined (Err e) j =
            fails_told listed listed (JoinsWithoutNames files line list)
            (JoinsWithoutNames files line list) (without_told files h l is)
            (without_told files h l is) name fails (JoinWithoutFails files line list) old new e
            (fault_told e) j

-- ---- with a list, or without

module _ {R : Type 0} (unread : R → Option (List ℕ)) (tells : Bool) (line : JoinLine)
    (opened : List (JoinInput R)) (name : List ℕ) (old new : Outside)
    (h : AreOpened old.files unread (names_of line) opened)
    (is : TellsAsides old.files tells) where
  abbrev by : Option R → JoinCounts → Option (List ℕ) → Option (List ℕ) → Type 0
  by list = JoinsBy unread tells (join_choice line) (option_map unread list) opened

  abbrev by_fails : Option R → CommandFault → Type 0
  by_fails list = JoinByFails unread tells (join_choice line) (option_map unread list) opened

  pub joined_by : (without : Option (Bor (List ℕ))) (list : Option R)
      → IsListOpened old.files unread without list → (r : Result (Unit {0}) CommandFault)
      → OnOk r (Leaves (by list) (by list)
      (join_lines (tells_others line.scope (is_some list)) line.reasons) name old new)
      → OnOk r (Leaves ((joins_by line without).writes old.files)
      ((joins_by line without).puts old.files) (joins_by line without).lines name old new)
  joined_by None None l r j =
      all.joined unread tells line opened old.files h is name old new
      (join_lines (not (is_all line.scope)) line.reasons) r j
  joined_by None (Some list) l r j = absurd l
  joined_by (Some path) None l r j = absurd l
  joined_by (Some path) (Some list) l r j =
      joined unread tells line opened path.now (unread list) old.files h l is name old new
      (join_lines true line.reasons) r j

  pub not_joined_by : (without : Option (Bor (List ℕ))) (list : Option R)
      → IsListOpened old.files unread without list → (r : Result (Unit {0}) CommandFault)
      → IfErr r (FailsToLeave (by list) (by_fails list) name old new)
      → IfErr r (FailsToLeave ((joins_by line without).writes old.files)
      ((joins_by line without).fails old.files) name old new)
  not_joined_by None None l r j =
      all.not_joined unread tells line opened old.files h is name old new r j
  not_joined_by None (Some list) l r j = absurd l
  not_joined_by (Some path) None l r j = absurd l
  not_joined_by (Some path) (Some list) l r j =
      not_joined unread tells line opened path.now (unread list) old.files h l is name old new r j

-- ---- which of the inputs and the list was not opened

kept_name : (names : List (List ℕ)) (list : Option (Bor (List ℕ))) (name : List ℕ) (k : ℕ)
    → slice_get names k ≡ Some name → slice_get (names_with names list) k ≡ Some name
kept_name names None name k e = e
kept_name [] (Some list) name k e = absurd (search rules)
kept_name (n ∷ names) (Some list) name zero e = e
kept_name (n ∷ names) (Some list) name (suc k) e = kept_name names (Some list) name k e

last_name : (names : List (List ℕ)) (list : List ℕ)
    → slice_get (names ++ list ∷ []) (length names) ≡ Some list
last_name [] list = refl
last_name (n ∷ names) list = last_name names list

module _ (files : Option Files) (names : List (List ℕ)) (list : Option (Bor (List ℕ)))
    (fault : CommandFault) where
  pub input_unopened : {R : Type 0} {unread : R → Option (List ℕ)} {known : Option Files}
      {old new : ℕ} → known ≡ files
      → FirstNotOpened known unread names old new fault ⊎ (fault ≡ OutOfMemory)
      → IsBefore files (names_with names list) fault
  input_unopened {unread = unread} {known = known} same (inr none) = inr (inr none)
  input_unopened {unread = unread} {known = known} same (inl first) = go first.why
    where
      unopened : ((fault ≡ CannotOpen (first.before + 1)) × IsNoFile files first.name)
          ⊎ (fault ≡ Input (first.before + 1) Read) → IsBefore files (names_with names list) fault
      unopened why = inl (record {
        before = first.before;
        name = first.name;
        here = kept_name names list first.name first.before first.here;
        why = why;
      })

      go : IsNotOpened known unread (first.before + 1) first.name fault
          → IsBefore files (names_with names list) fault
      go (inl (inl none)) = unopened
          (inl (none.0, subst (λ f. IsNoFile f first.name) same none.1))
      go (inl (inr read)) = unopened (inr read.0)
      go (inr none) = inr (inr none)

pub list_unopened : {known : Option Files} {number : ℕ} (files : Option Files)
    (names : List (List ℕ)) (list : Option (Bor (List ℕ))) (fault : CommandFault)
    → known ≡ files → number ≡ length names + 1 → IsListUnopened known number list fault
    → IsBefore files (names_with names list) fault
list_unopened files names None fault same is f = absurd f
list_unopened files names (Some list) fault same is (inl none) = inl (record {
  before = length names;
  name = list.now;
  here = last_name names list.now;
  why = inl (
    subst (λ n. fault ≡ CannotOpen n) is none.0,
    subst (λ f. IsNoFile f list.now) same none.1,
  );
})
list_unopened files names (Some list) fault same is (inr none) = inr (inr none)
