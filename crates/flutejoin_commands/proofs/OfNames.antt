-- What a command did with opened inputs, stated of the names that were opened (specs/Named).
use Rattle.std.proofs.Common.{◌≡◌, ◌⊎◌, ℕ, zero, suc, List, [], ◌∷◌, length, Option, Some, None}
use Rattle.std.proofs.Common.{Result, Ok, Err, IfErr, inl, inr, refl, sym, ap, subst, arith, rules}
use Rattle.std.specs.Prelude.{slice_get, Bool, OnOk, IsSome, IfSome}
use Rattle.std.specs.List.{AllZip}
use Rattle.std.proofs.lemmas.Option.{same_Some}
use Rattle.flutejoin.specs.JoinFaults.{NamesOneOf}
use Rattle.flutejoin.specs.JoinInputs.{AreInputs, IsInput}
use Rattle.flutejoin.specs.declared.join.join_input.JoinInput.{JoinInput}
use Rattle.flutejoin.specs.declared.join.join_counts.JoinCounts.{JoinCounts}
use Rattle.flutejoin.specs.declared.command_fault.CommandFault.{CommandFault}
use Rattle.flutejoin.specs.declared.command_fault.CommandFault.TheVariants.{CannotOpen, OutOfMemory}
use Rattle.flutejoin_commands.specs.Files.{Files, HasBytes, IfFiles, IsNoFile}
use Rattle.flutejoin_commands.specs.Opened.{IsOpened, AreOpened}
use Rattle.flutejoin_commands.specs.Named.{IsAt, IsBefore, JoinsNames, JoinNamesFails, names_of}
use Rattle.flutejoin_commands.specs.Works.{JoinsAll, JoinAllFails, join_choice}
use Rattle.flutejoin_commands.specs.Worlds.{FileIs, Leaves, in_file, in_device, in_output}
use Rattle.flutejoin_commands.specs.Worlds.{FailsToLeave, as_before, in_place, Outside}
use Rattle.flutejoin_commands.specs.Worlds.{TellsAsides}
use Rattle.flutejoin_line.specs.declared.join_line.JoinLine.{JoinLine}

-- ---- a weaker account of what was written

module _ {A : Type 0} (writes puts writes' puts' : A → Option (List ℕ) → Option (List ℕ) → Type 0)
    (to_file : (x : A) (old new : Option (List ℕ)) → writes x old new → writes' x old new)
    (to_output : (x : A) (old new : Option (List ℕ)) → puts x old new → puts' x old new)
    (name : List ℕ) where
  file_told : (x : A) (beside : Option (List ℕ)) (old new : Option Files)
      → FileIs (writes x) name beside old new → FileIs (writes' x) name beside old new
  file_told x beside None new f = (to_file x None None f.0, f.1)
  file_told x beside (Some old) None f = absurd f
  file_told x beside (Some old) (Some new) f = (f.0, to_file x (Some []) (Some f.0) f.1, f.2)

  pub leaves_told : (lines : A → List ℕ) (old new : Outside) → Leaves writes puts lines name old new
      → Leaves writes' puts' lines name old new
  leaves_told lines old new (in_file x n f t e) = in_file x n
      (file_told x None old.files new.files f) t e
  leaves_told lines old new (in_device x n n' t e) = in_device x n n' t e
  leaves_told lines old new (in_output x s f p t) = in_output x s f
      (to_output x old.output new.output p) t

  pub fails_told : (fails fails' : CommandFault → Type 0) (old new : Outside) (fault : CommandFault)
      → (fails fault → fails' fault) → FailsToLeave writes fails name old new fault
      → FailsToLeave writes' fails' name old new fault
  fails_told fails fails' old new fault f (as_before (inl why) k t) = as_before (inl (f why)) k t
  fails_told fails fails' old new fault f (as_before (inr why) k t) = as_before (inr why) k t
  fails_told fails fails' old new fault f (in_place is x beside g t) = in_place is x beside
      (file_told x beside old.files new.files g) t

-- ---- the inputs of a join

module _ {R : Type 0} (files : Files) (unread : R → Option (List ℕ)) where
  -- what one name has
  content_of : (name : List ℕ) (input : JoinInput R) → IsOpened (Some files) unread name input
      → (bytes : List ℕ) × IsAt files name bytes × IsInput unread input bytes
  content_of name input h = known_content (unread h.0) h.1 h.2
    where
      known_content : (known : Option (List ℕ)) → (known ≡ files name) × IsSome known
          → IfSome known (IsInput unread input)
          → (bytes : List ℕ) × IsAt files name bytes × IsInput unread input bytes
      known_content None at b = absurd (search rules)
      known_content (Some bytes) at b = (bytes, sym at.0, b)

  -- what all of them have
  pub contents_of : (names : List (List ℕ)) (opened : List (JoinInput R)) → length opened ≡ length names
      → ((k : ℕ) (name : List ℕ) (input : JoinInput R) → slice_get names k ≡ Some name
      → slice_get opened k ≡ Some input → IsOpened (Some files) unread name input)
      → (contents : List (List ℕ)) × AllZip (IsAt files) names contents
      × AllZip (λ input bytes. IsInput unread input bytes) opened contents
  contents_of [] [] m e = ([], tt, tt)
  contents_of [] (o ∷ os) m e = absurd (omega (arith, m))
  contents_of (n ∷ ns) [] m e = absurd (omega (arith, m))
  contents_of (n ∷ ns) (o ∷ os) m e =
      let rest = contents_of ns os (omega (arith, m)) (λ k name input. e (suc k) name input) in
      let first = content_of n o (e zero n o refl refl) in
      (first.0 ∷ rest.0, (first.1, rest.1), (first.2, rest.2))

-- the inputs that were opened, and what their names have
module _ {R : Type 0} (unread : R → Option (List ℕ)) where
  as_many_inputs : (opened : List (JoinInput R)) (contents : List (List ℕ))
      → AllZip (λ input bytes. IsInput unread input bytes) opened contents
      → length opened ≡ length contents
  as_many_inputs [] [] a = refl
  as_many_inputs [] (c ∷ cs) a = absurd a
  as_many_inputs (o ∷ os) [] a = absurd a
  as_many_inputs (o ∷ os) (c ∷ cs) a = ap suc (as_many_inputs os cs a.1)

  each_input : (opened : List (JoinInput R)) (contents : List (List ℕ))
      → AllZip (λ input bytes. IsInput unread input bytes) opened contents
      → (k : ℕ) (input : JoinInput R) (bytes : List ℕ) → slice_get opened k ≡ Some input
      → slice_get contents k ≡ Some bytes → IsInput unread input bytes
  each_input [] [] a k input bytes eo ec = absurd (search rules)
  each_input [] (c ∷ cs) a k input bytes eo ec = absurd a
  each_input (o ∷ os) [] a k input bytes eo ec = absurd a
  each_input (o ∷ os) (c ∷ cs) a zero input bytes eo ec =
      let one : IsInput unread input c =
      subst (λ b. IsInput unread b c) (same_Some o input eo) a.0 in
      subst (λ x. IsInput unread input x) (same_Some c bytes ec) one
  each_input (o ∷ os) (c ∷ cs) a (suc k) input bytes eo ec = each_input os cs a.1 k input bytes eo
      ec

  pub are_inputs : (opened : List (JoinInput R)) (contents : List (List ℕ))
      → AllZip (λ input bytes. IsInput unread input bytes) opened contents
      → AreInputs unread opened contents
  are_inputs opened contents a = record {
    as_many = as_many_inputs opened contents a;
    each =
        each_input opened contents a;
  }

  module _ (tells : Bool) (line : JoinLine) (opened : List (JoinInput R)) where
    -- what join_to joined of the inputs, stated of the names
    joins_told : (files : Option Files) → AreOpened files unread (names_of line) opened
        → TellsAsides files tells → (counts : JoinCounts) (old new : Option (List ℕ))
        → JoinsAll unread tells (join_choice line None) opened counts old new
        → JoinsNames files line counts old new
    joins_told None h is counts old new j = tt
    joins_told (Some files) h is counts old new j =
        let had = contents_of files unread (names_of line) opened h.as_many h.each in
        (had.0, had.1, j is had.0 (are_inputs opened had.0 had.2))

    fault_told : (files : Option Files) → AreOpened files unread (names_of line) opened
        → TellsAsides files tells → (fault : CommandFault)
        → JoinAllFails unread tells (join_choice line None) opened fault
        → JoinNamesFails files line fault
    fault_told None h is fault j = inr (tt, subst (λ n. NamesOneOf n fault) h.as_many j.1)
    fault_told (Some files) h is fault j =
        let had = contents_of files unread (names_of line) opened h.as_many h.each in
        inr (
          (had.0, had.1, j.0 is had.0 (are_inputs opened had.0 had.2)),
          subst (λ n. NamesOneOf n fault) h.as_many j.1,
        )

    module _ (files : Option Files) (h : AreOpened files unread (names_of line) opened)
        (is : TellsAsides files tells) (name : List ℕ) (old new : Outside) where
      abbrev all : JoinCounts → Option (List ℕ) → Option (List ℕ) → Type 0
      all = JoinsAll unread tells (join_choice line None) opened

      pub joined : (lines : JoinCounts → List ℕ) (r : Result (Unit {0}) CommandFault)
          → OnOk r (Leaves all all lines name old new)
          → OnOk r (Leaves (JoinsNames files line)
          (JoinsNames files line) lines name old new)
      joined lines (Ok u) l =
          leaves_told all all (JoinsNames files line)
          (JoinsNames files line)
          (joins_told files h is) (joins_told files h is) name lines old new l
      joined lines (Err e) l = tt

      pub not_joined : (r : Result (Unit {0}) CommandFault)
          → IfErr r (FailsToLeave all (JoinAllFails unread tells (join_choice line None) opened) name
          old new)
          → IfErr r (FailsToLeave (JoinsNames files line)
          (JoinNamesFails files line) name old new)
      not_joined (Ok u) l = tt
      not_joined (Err e) l =
          fails_told all all (JoinsNames files line)
          (JoinsNames files line)
          (joins_told files h is) (joins_told files h is) name
          (JoinAllFails unread tells (join_choice line None) opened)
          (JoinNamesFails files line) old new e (fault_told files h is e) l

-- ---- one input, and two

-- P of what a name has, if the files are known
pub told_of : (files : Option Files) (name : List ℕ) (known : Option (List ℕ))
    → HasBytes files name known → (P : Option (List ℕ) → Type 0) → P known
    → IfFiles files (λ f. P (f name))
told_of None name known h P p = tt
told_of (Some files) name known h P p = subst P h.0 p

-- two names have these bytes, if the files are known
record HaveBytes (files : Option Files) (a b : List ℕ) (first second : Option (List ℕ))
    : Type 0 where
  pub of_first : HasBytes files a first
  pub of_second : HasBytes files b second

told_of_two : (files : Option Files) {a b : List ℕ} {first second : Option (List ℕ)}
    → HaveBytes files a b first second
    → (P : Option (List ℕ) → Option (List ℕ) → Type 0) → P first second
    → IfFiles files (λ f. P (f a) (f b))
told_of_two None h P p = tt
told_of_two (Some files) {a = a} {second = second} h P p =
    subst (λ y. P (files a) y) h.of_second.0 (subst (λ x. P x second) h.of_first.0 p)

-- a command of one input: what it left, and why it failed
module _ {A : Type 0} (P Q : Option (List ℕ) → A → Option (List ℕ) → Option (List ℕ) → Type 0)
    (F : Option (List ℕ) → CommandFault → Type 0) (files : Option Files) (name : List ℕ)
    (known : Option (List ℕ)) (h : HasBytes files name known) (out : List ℕ) (old new : Outside)
  where
    pub left_of : (lines : A → List ℕ) (r : Result (Unit {0}) CommandFault)
        → OnOk r (Leaves (P known) (Q known) lines out old new)
        → OnOk r (Leaves (λ x o n. IfFiles files (λ f. P (f name) x o n))
        (λ x o n. IfFiles files (λ f. Q (f name) x o n)) lines out old new)
    left_of lines (Ok u) l =
        leaves_told (P known) (Q known) (λ x o n. IfFiles files (λ f. P (f name) x o n))
        (λ x o n. IfFiles files (λ f. Q (f name) x o n))
        (λ x o n p. told_of files name known h (λ k. P k x o n) p)
        (λ x o n q. told_of files name known h (λ k. Q k x o n) q) out lines old new l
    left_of lines (Err e) l = tt

    pub not_left_of : (r : Result (Unit {0}) CommandFault)
        → IfErr r (FailsToLeave (P known) (F known) out old new)
        → IfErr r (FailsToLeave (λ x o n. IfFiles files (λ f. P (f name) x o n))
        (λ fault. IsBefore files (name ∷ []) fault ⊎ IfFiles files (λ f. F (f name) fault)) out old
        new)
    not_left_of (Ok u) l = tt
    not_left_of (Err e) l =
        fails_told (P known) (P known) (λ x o n. IfFiles files (λ f. P (f name) x o n))
        (λ x o n. IfFiles files (λ f. P (f name) x o n))
        (λ x o n p. told_of files name known h (λ k. P k x o n) p)
        (λ x o n p. told_of files name known h (λ k. P k x o n) p) out
        (F known) (λ fault. IsBefore files (name ∷ []) fault
        ⊎ IfFiles files (λ f. F (f name) fault))
        old new e (λ w. inr (told_of files name known h (λ k. F k e) w)) l

-- a command of two inputs: what it left, and why it failed
module _ {A : Type 0} (P : Option (List ℕ) → Option (List ℕ) → A → Option (List ℕ) → Option (List ℕ)
    → Type 0)
    (F : Option (List ℕ) → Option (List ℕ) → CommandFault → Type 0) (files : Option Files)
    (a b : List ℕ)
    (first second : Option (List ℕ)) (h : HasBytes files a first) (i : HasBytes files b second)
    (out : List ℕ) (old new : Outside) where
  both : HaveBytes files a b first second
  both = record { of_first = h; of_second = i }

  both_told : (x : A) (o n : Option (List ℕ)) → P first second x o n
      → IfFiles files (λ f. P (f a) (f b) x o n)
  both_told x o n p = told_of_two files both (λ k l. P k l x o n) p

  pub left_of_two : (lines : A → List ℕ) (r : Result (Unit {0}) CommandFault)
      → OnOk r (Leaves (P first second) (P first second) lines out old new)
      → OnOk r (Leaves (λ x o n. IfFiles files (λ f. P (f a) (f b) x o n))
      (λ x o n. IfFiles files (λ f. P (f a) (f b) x o n)) lines out old new)
  left_of_two lines (Ok u) l =
      leaves_told (P first second) (P first second)
      (λ x o n. IfFiles files (λ f. P (f a) (f b) x o n))
      (λ x o n. IfFiles files (λ f. P (f a) (f b) x o n)) both_told both_told out lines old new
      l
  left_of_two lines (Err e) l = tt

  pub not_left_of_two : (r : Result (Unit {0}) CommandFault)
      → IfErr r (FailsToLeave (P first second) (F first second) out old new)
      → IfErr r (FailsToLeave (λ x o n. IfFiles files (λ f. P (f a) (f b) x o n))
      (λ fault. IsBefore files (a ∷ b ∷ []) fault ⊎ IfFiles files (λ f. F (f a) (f b) fault)) out
      old new)
  not_left_of_two (Ok u) l = tt
  not_left_of_two (Err e) l =
      fails_told (P first second) (P first second)
      (λ x o n. IfFiles files (λ f. P (f a) (f b) x o n))
      (λ x o n. IfFiles files (λ f. P (f a) (f b) x o n)) both_told both_told out
      (F first second) (λ fault. IsBefore files (a ∷ b ∷ []) fault
      ⊎ IfFiles files (λ f. F (f a) (f b) fault))
      old new e (λ w. inr (told_of_two files both (λ k l. F k l e) w)) l

-- the first of two that was not opened
pub two_unopened : {S : Type 0} (files known : Option Files) (a b : List ℕ) (fault : CommandFault)
    → known ≡ files
    → ((fault ≡ CannotOpen 1) × IsNoFile known a) ⊎ (((fault ≡ CannotOpen 2) × IsNoFile known b × S)
    ⊎ (fault ≡ OutOfMemory))
    → IsBefore files (a ∷ b ∷ []) fault
two_unopened files known a b fault same (inl n) =
    inl (record {
      before = 0;
      name = a;
      here = refl;
      why =
          inl (n.0, subst (λ f. IsNoFile f a) same n.1);
    })
two_unopened files known a b fault same (inr (inl n)) =
    inl (record {
      before = 1;
      name = b;
      here = refl;
      why =
          inl (n.0, subst (λ f. IsNoFile f b) same n.1);
    })
two_unopened files known a b fault same (inr (inr none)) = inr (inr none)
