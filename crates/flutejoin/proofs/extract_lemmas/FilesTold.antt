-- ObjectFiles: files and lines as a walk tells of objects (specs/ObjectFiles: HasFiles).
use Rattle.std.proofs.Common.{◌≡◌, ℕ, ◌+◌, ◌-◌, ◌≤◌, List, [], ◌∷◌, ◌++◌, Option, Some, None}
use Rattle.std.proofs.Common.{Result, Ok, Err, refl, sym, ap, ◌∙◌, subst, append-nil, arith, length}
use Rattle.std.proofs.Common.{Bool, take}
use Rattle.std.specs.Prelude.{IfSome, OnErr, OnOk, is_some, option_map}
use Rattle.std.specs.List.{flat_map}
use Rattle.std.specs.Io.KnownBytes.{Appends, IsAtEnd}
use Rattle.std.proofs.KnownBytes.{Appends-nil, Appends-trans}
use Rattle.std.proofs.lemmas.List.{flat_map_more, length-append, length-take}
use Rattle.flute_parts.proofs.Public.{of_equal}
use Rattle.flute_parts.specs.Devices.{Writes}
use Rattle.flute_parts.specs.declared.fact.Fact.{Fact}
use Rattle.flute_output.specs.NewFolders.{Fills, FolderStays, IsReady, LeadsTo, Makes, NamedFile}
use Rattle.flute_output.specs.NewFolders.{Places, keeps, puts}
use Rattle.flutejoin.specs.ExtractAll.{ExtractsAll}
use Rattle.flutejoin.specs.FileNames.{file_name}
use Rattle.flutejoin.specs.Gaps.{ListsJournal}
use Rattle.flutejoin.specs.Limits.{Limits}
use Rattle.flutejoin.specs.ObjectFiles.{HasFiles, file_so_far, first_line, lasting}
use Rattle.flutejoin.specs.ObjectFiles.{left_so_far, named_file, object_file, one_file}
use Rattle.flutejoin.specs.Progress.{EndsAs, Progress, with_value}
use Rattle.flutejoin.specs.Told.{Told}
use Rattle.flutejoin.proofs.extract_lemmas.FolderSteps.{did_stay, fills_keeps, fills_puts}
use Rattle.flutejoin.proofs.extract_lemmas.ObjectWriters.{take-append}

-- ---- what of a folder stays

pub lasts : (a b : Option Places) → LeadsTo FolderStays a b → option_map lasting b ≡ option_map lasting a
lasts None None h = refl
lasts None (Some b) h = absurd h
lasts (Some a) None h = absurd h
lasts (Some a) (Some b) h = λ i. Some (record { out = h.out i; past = h.past i; named = h.named i })

pub stays : (a b : Option Places) → option_map lasting b ≡ option_map lasting a → LeadsTo FolderStays a b
stays None None e = tt
stays None (Some b) e = absurd cc
stays (Some a) None e = absurd cc
stays (Some a) (Some b) e =
    let same : lasting b ≡ lasting a = cc in
    record {
      out = ap (λ x. x.out) same;
      past = ap (λ x. x.past) same;
      named = ap (λ x. x.named) same;
    }

-- a call of a folder that did this, or failed
pub stays_called : (f : Places → Places) → ((p : Places) → FolderStays p (f p))
    → {T E : Type 0} (r : Result T E) (a b : Option Places) → OnOk r (Makes f a b)
    → OnErr r (LeadsTo FolderStays a b) → LeadsTo FolderStays a b
stays_called f h (Ok x) a b made _ = did_stay f h a b made
stays_called f h (Err x) a b _ failed = failed

-- ---- the open file

both_some : {A B : Type 0} (f : List ℕ → A) (g : List ℕ → B) (o : Option (List ℕ))
    → is_some (option_map f o) ≡ is_some (option_map g o)
both_some f g None = refl
both_some f g (Some x) = refl

pub same_some : (progress : Option Progress)
    → is_some (left_so_far progress) ≡ is_some (file_so_far progress)
same_some None = refl
same_some (Some p) = both_some _ _ _

-- none is open, as nothing is left to be written
pub no_file : {left : Option ℕ} (file : Option NamedFile) → left ≡ None
    → is_some left ≡ is_some file → file ≡ None
no_file None e _ = refl
no_file (Some f) e same = absurd (let x = sym (ap is_some e) ∙ same in cc)

pub no_files : {left : Option ℕ} (files : List NamedFile) (file : Option NamedFile)
    (p0 p : Option Places) → left ≡ None → is_some left ≡ is_some file → LeadsTo (Fills files file)
    p0 p → LeadsTo (Fills (files ++ one_file file) None) p0 p × (0 ≡ length (one_file file))
no_files files None p0 p e _ filled = (rw (append-nil files) filled, refl)
no_files files (Some f) p0 p e same filled = absurd (let x = sym (ap is_some e) ∙ same in cc)

-- one is open, and is kept
pub kept_one : {left : Option ℕ} {n : ℕ} (files : List NamedFile) (file : Option NamedFile)
    (p0 p q : Option Places) → (left ≡ Some n) × (is_some left ≡ is_some file)
    → LeadsTo (Fills files file) p0 p → Makes keeps p q
    → LeadsTo (Fills (files ++ one_file file) None) p0 q × (1 ≡ length (one_file file))
kept_one files None p0 p q e filled made = absurd (let x = sym (ap is_some e.0) ∙ e.1 in cc)
kept_one files (Some f) p0 p q e filled made = (fills_keeps _ f p0 p q filled made, refl)

none_mapped : {A : Type 0} (f : List ℕ → A) (g : List ℕ → List ℕ) (o : Option (List ℕ))
    → None ≡ option_map f o → option_map g o ≡ o
none_mapped f g None e = refl
none_mapped f g (Some x) e = absurd cc

some_mapped : {A : Type 0} (f : List ℕ → A) (o : Option (List ℕ)) (x : A)
    → Some x ≡ option_map f o → (b : List ℕ) × (o ≡ Some b) × (x ≡ f b)
some_mapped f None x e = absurd cc
some_mapped f (Some b) x e = (b, refl, cc)

left_of : (left : ℕ) (bytes : List ℕ) → left - length (take left bytes) ≡ left - length bytes
left_of left bytes = simp length-take (omega arith)

module _ {at : Option Places × Option (List ℕ)} {objects : List Told} {p : Progress}
    {places : Option Places} {lines : Option (List ℕ)} {written : ℕ} {left : Option ℕ}
    (h : HasFiles at objects (Some p) places lines written left) (value : List ℕ) where
  -- no file is open
  pub fits_none : left ≡ None
      → HasFiles at objects (Some (with_value value p)) places lines written left
  fits_none e =
      let same = none_mapped _ _ _ (sym e ∙ h.left_is) in
      record {
        filled = rw same h.filled;
        told = h.told;
        count = h.count;
        left_is = h.left_is ∙ ap
            (λ x. option_map (λ bytes. p.info.transfer_length - length bytes) x) (sym same);
      }

  -- the open file takes what is of the object
  pub fits_some : (n : ℕ) {places' : Option Places} → left ≡ Some n → Makes (puts (take n value))
      places places' → HasFiles at objects (Some (with_value value p)) places' lines written
      (Some (n - length (take n value)))
  fits_some n {places'} e made =
      let len = p.info.transfer_length in
      let b = some_mapped _ _ n (sym e ∙ h.left_is) in
      let file : List ℕ → NamedFile =
      λ bytes. record { name = file_name p.key; bytes = take len bytes } in
      let before = subst (λ x. LeadsTo (Fills (flat_map object_file objects)
      (option_map file x)) at.0 places) b.1 h.filled in
      let after = fills_puts _ _ _ at.0 places
      places' before made in
      let all =
      ap (λ x. record { name = file_name p.key; bytes = x })
      (ap (λ k. take len b.0 ++ take k value) b.2 ∙ sym (take-append _ _ _)) in
      let left : n - length (take n value) ≡ len - length (b.0 ++ value) =
      omega (arith, left_of n value, b.2, length-append b.0 value) in
      record {
        filled = subst (λ x. LeadsTo (Fills (flat_map object_file objects)
            (option_map file (option_map (λ bytes. bytes ++ value) x))) at.0 places') (sym b.1)
            (subst (λ x. LeadsTo (Fills (flat_map object_file objects) (Some x)) at.0
            places') all after);
        told = h.told;
        count = h.count;
        left_is = subst (λ x. Some (n - length (take n value)) ≡ option_map
            (λ bytes. len - length bytes) (option_map (λ bytes. bytes ++ value) x)) (sym b.1)
            (ap Some left);
      }

-- ---- the end of an object

-- its file is what was written of it
file_told : (t : Told) (progress : Option Progress) → EndsAs t progress
    → object_file t ≡ one_file (file_so_far progress)
file_told t None e = ap (named_file t.key) e.bytes
file_told t (Some p) e = ap (named_file t.key) e.bytes ∙ go _
  where
    go : (o : Option (List ℕ))
        → named_file t.key (option_map (λ bytes. take p.info.transfer_length bytes) o)
        ≡ one_file (option_map (λ bytes. record {
          name = file_name p.key;
          bytes = take p.info.transfer_length bytes;
        }) o)
    go None = refl
    go (Some b) = ap (λ k. record {
      name = file_name k;
      bytes = take p.info.transfer_length b;
    } ∷ []) e.key

pub few_files : (objects : List Told) → length (flat_map object_file objects) ≤ length objects
few_files [] = omega arith
few_files (t ∷ objects) =
    let one : length (object_file t) ≤ 1 = go t.bytes in
    omega (arith, length-append (object_file t) (flat_map object_file objects), few_files objects)
  where
    go : (o : Option (List ℕ)) → length (named_file t.key o) ≤ 1
    go None = omega arith
    go (Some b) = omega arith

pub if_written : {E B : Type 0} (r : Result (Unit {0}) E) (s t : Option (List ℕ)) (bytes : List ℕ)
    → Writes s t bytes r → (Appends s t bytes → B) → OnOk r B
if_written (Ok x) s t _ h f = f h
if_written (Err e) s t _ h f = tt

pub one_more : {at : Option Places × Option (List ℕ)} {objects : List Told}
    {progress : Option Progress} {places : Option Places} {lines : Option (List ℕ)} {written : ℕ}
    {left : Option ℕ} (h : HasFiles at objects progress places lines written left) (t : Told) →
    EndsAs t progress → {places' : Option Places} {lines' : Option (List ℕ)} {n count : ℕ} → LeadsTo
    (Fills (flat_map object_file objects ++ one_file (file_so_far progress)) None) at.0 places' ×
    (n ≡ length (one_file (file_so_far progress))) → Appends lines lines' (first_line t) → count ≡
    written + n → {left' : Option ℕ} → left' ≡ None → HasFiles at (objects ++ t ∷ []) None places'
    lines' count left'
one_more {at} {objects} {progress} {lines} h t e {places'} {lines'} {n} f line c none =
    let files = ap (λ x. flat_map object_file objects ++ x) (sym (file_told t _ e)) ∙ flat_map_more
    object_file [] objects t in record {
      filled = rw (← files) f.0;
      told = rw (← flat_map_more first_line [] objects t) (Appends-trans _ _ _ _ _ h.told line);
      count = cc (length-append (flat_map object_file objects) (one_file (file_so_far progress)));
      left_is = none;
    }

-- ---- all objects

none_filled : (p : Option Places) → IfSome p IsReady → LeadsTo (Fills [] None) p p
none_filled None h = tt
none_filled (Some p) h = record {
  beside = sym (append-nil _);
  there = h.there;
  open_is = h.closed;
  stays = record { out = refl; past = refl; named = refl };
}

-- no object yet
pub none_written : (p : Option Places) (w : Option (List ℕ)) {written : ℕ} {left : Option ℕ}
    → IfSome p IsReady → written ≡ 0 → left ≡ None → HasFiles (p, w) [] None p w written left
none_written p w ready none left = record {
  filled = none_filled p ready;
  told = Appends-nil w;
  count = none;
  left_is = left;
}

-- what holds of two parts of equal values
pub of_equals : {A B C D : Type 0} (f : A → C) (g : B → D) (E : C → D → Type 0) {x : A} {y : B}
    → E (f x) (g y) → (x' : A) (y' : B) → x ≡ x' → y ≡ y' → E (f x') (g y')
of_equals f g E {y} h x' y' e d = of_equal g (E (f x')) (of_equal f (λ c. E c (g y)) h _ e) _ d

pub extracted : {most : Limits} (picks : Fact → Bool) (u left : Option (List ℕ))
    {at : Option Places × Option (List ℕ)} {places : Option Places} {lines : Option (List ℕ)}
    {written : ℕ} {open_left : Option ℕ} → ListsJournal most picks u
    (λ objects. HasFiles at objects None places lines written open_left) → IsAtEnd left →
    ExtractsAll most u left picks at.0 places at.1 lines written
extracted _ u _ h end = record {
  entries = h.entries;
  journal = h.journal;
  read = end;
  within = h.within;
  taken = record {
    files = flat_map object_file h.objects;
    told = flat_map first_line h.objects;
    taken = record { objects = h.objects; are_told = h.told; files_are = refl; told_is = refl };
    filled = h.so.filled;
    written = h.so.told;
    count_is = h.so.count;
  };
}
