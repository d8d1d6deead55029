-- ObjectWalk: the open object, whose facts are still to come (specs/Walk: HasOpen).
use Rattle.std.proofs.Common.{◌≡◌, ◌≤◌, ◌+◌, ℕ, length, length-append, arith, List, [], ◌∷◌}
use Rattle.std.proofs.Common.{◌++◌, Option, Some, None, Result, Ok, Err, refl, sym, ap, ◌∙◌, subst}
use Rattle.std.proofs.Common.{inl, inr, append_assoc, Bool, true, false}
use Rattle.std.proofs.lemmas.List.Sums.{sum_by-append, sum_by-cons, sum_by_push}
use Rattle.std.specs.Prelude.{◌⊎◌, Contains, OnOk, option_map, take}
use Rattle.std.specs.List.{flat_map}
use Rattle.std.specs.Borrow.{Bor}
use Rattle.std.proofs.lemmas.List.{append-nil}
use Rattle.std.proofs.lemmas.List.Elements.{Contains-append_left, Contains-append_right}
use Rattle.std.proofs.lemmas.List.Elements.{Contains-append_cases, Contains-push}
use Rattle.std.proofs.lemmas.List.Elements.{Contains-push_cases}
use Rattle.flute_parts.specs.Information.{Information}
use Rattle.flute_parts.specs.Addresses.{address, info_address}
use Rattle.flute_parts.specs.Facts.{fact_at, IsRising}
use Rattle.flute_parts.specs.declared.address.Part.{Part}
use Rattle.flute_parts.specs.declared.address.Part.TheVariants.{Info as InfoPart}
use Rattle.flute_parts.specs.declared.address.Part.TheVariants.{Symbol as SymbolPart}
use Rattle.flute_parts.specs.declared.key.Key.{Key}
use Rattle.flute_parts.specs.declared.symbol_id.SymbolId.{SymbolId}
use Rattle.flute_parts.specs.declared.fact.Fact.{Fact}
use Rattle.flute_parts.specs.declared.fact.Fact.TheVariants.{Info, InfoConflict, Symbol}
use Rattle.flute_parts.specs.declared.fact.Fact.TheVariants.{SymbolConflict}
use Rattle.flute_parts.specs.Equality.{key_itself}
use Rattle.flute_parts.specs.Order.{same_key}
use Rattle.flute_parts.proofs.Public.{fact_at-none, rising-front, rising_tells}
use Rattle.flute_store.specs.Held.{HoldsObject}
use Rattle.flute_store.specs.declared.status.Status.{Status}
use Rattle.flute_store.specs.declared.gap.Gap.{Gap}
use Rattle.flute_store.specs.declared.gap.Reason.{Reason}
use Rattle.flute_store.specs.Extract.{IsNotWhole}
use Rattle.flute_store.specs.Objects.{Whole, runs, listed, object as object_of}
use Rattle.flute_store.specs.Scan.{Scanned, next_fact, at_begin, CanFollow, GaveAll}
use Rattle.flute_store.proofs.Public.{runs-listed, whole-gapless}
use Rattle.flute_store.specs.Scans.{ScanState, Scans}
use Rattle.flute_store.specs.Status.{TellsStatus}
use Rattle.flutejoin.specs.Objects.{bytes_at, bytes_wanting, gaps_at, info_at}
use Rattle.flutejoin.specs.Progress.{EndsAs, HasGap, IsBroken, PassesOn, Progress, at_start}
use Rattle.flutejoin.specs.Progress.{progress_of}
use Rattle.flutejoin.specs.Told.{AreTold, Told, conflict_in, conflicts_of, told_of}
use Rattle.flutejoin.specs.declared.walk.object_walk.OpenObject.{OpenObject}
use Rattle.flutejoin.specs.declared.walk.object_walk.ObjectState.{ObjectState}
use Rattle.flutejoin.specs.declared.walk.object_walk.ObjectState.TheVariants.{NoInformation}
use Rattle.flutejoin.specs.declared.walk.object_walk.ObjectState.TheVariants.{ConflictingInformation}
use Rattle.flutejoin.specs.declared.walk.object_walk.ObjectState.TheVariants.{OneInformation}
use Rattle.flutejoin.specs.Listing.{IsFirstOf}
use Rattle.flutejoin.specs.Walk.{HasAll, HasOpen, HasScanned, Stands, StateIs, TellsAll}
use Rattle.flutejoin.specs.Walk.{conflicts_in}
use Rattle.flutejoin.proofs.gaps_lemmas.ObjectsListed.{in_nothing, holds-from, rising-back}
use Rattle.flutejoin.proofs.gaps_lemmas.ObjectsListed.{stands_before}
use Rattle.flutejoin.proofs.gaps_lemmas.ObjectsListed.{same_object_between, information_first}
use Rattle.flutejoin.proofs.gaps_lemmas.ObjectsListed.{EndsIn, one_more_told}
use Rattle.flutejoin.proofs.gaps_lemmas.ObjectsListed.{none_counted, none_told, one_if}

-- ---- a held symbol as a fact

pub told_key : (key : Key) (n : SymbolId × Option (Bor (List ℕ)))
    → (address (next_fact key n)).key ≡ key
told_key _ (id, Some bytes) = refl
told_key _ (id, None) = refl

symbol_part : (p : Part) (id : SymbolId) → p ≡ SymbolPart id → p ≡ InfoPart → ⊥
symbol_part p id e i = absurd cc

pub told_part : (key : Key) (n : SymbolId × Option (Bor (List ℕ)))
    → (address (next_fact key n)).part ≡ InfoPart → ⊥
told_part _ (id, Some bytes) e = symbol_part _ _ refl e
told_part _ (id, None) e = symbol_part _ _ refl e

-- ---- the first fact of an object

pub first_information : (F : List Fact) (f : Fact) (key : Key) → IsRising (F ++ f ∷ [])
    → address f ≡ info_address key → IsFirstOf F key
first_information F f _ r e g c k =
    information_first _ _ (stands_before F _ g f r c
    (Contains-push [] f)) (ap (λ a. a.part) e) (k ∙ sym (ap (λ a. a.key) e))

pub begins_scan : (key : Key) (info : Information) (scan : ScanState)
    → Scans scan (at_begin key info)
    → StateIs key (Info key info ∷ []) (Some (at_start key info)) (OneInformation scan)
begins_scan key info scan h = record {
  scanned = at_begin key info;
  scans = h;
  of_key = refl;
  facts_are = refl;
  free = refl;
  so_far = refl;
  broken = λ e. absurd cc;
}

pub begins_conflict : (key : Key) → StateIs key (InfoConflict key ∷ []) None ConflictingInformation
begins_conflict key = (Contains-push [] _, refl)

no_information : (mine : List Fact) (n : SymbolId × Option (Bor (List ℕ))) (key : Key)
    → ((f : Fact) → Contains mine f → (address f).part ≡ InfoPart → ⊥)
    → (f : Fact) → Contains (mine ++ next_fact key n ∷ []) f → (address f).part ≡ InfoPart → ⊥
no_information mine n key h f c i = elim (Contains-push_cases _ _ f c) [
  | inl d ↦ h f d i
  | inr e ↦ told_part _ n (ap (λ x. (address x).part) e ∙ i)
]

pub begins_symbol : (key : Key) (n : SymbolId × Option (Bor (List ℕ)))
    → StateIs key (next_fact key n ∷ []) None NoInformation
begins_symbol key n = (no_information [] n _ (λ f c i. in_nothing f c), refl)

-- the object that was open is another
pub first_of_others : {F : List Fact} {objects : List Told} {progress : Option Progress} {object : OpenObject} (key : Key) (f : Fact)
    → HasOpen F objects progress object → IsRising (F ++ f ∷ [])
    → (address f).key ≡ key → (object.key ≡ key → ⊥) → IsFirstOf F key
first_of_others {F} _ f h r e apart g c k =
    let one = h.some in
    let d = subst (λ l. Contains l one.0) (sym h.all) (Contains-append_right _ _ _ one.1) in
    let here = h.of_object one.0 one.1 in
    elim (Contains-append_cases _ _ g (rw h.all at c)) [
      | inr m ↦ apart (sym (h.of_object g m) ∙ k)
      | inl b ↦ let l = stands_before _ _ g _ (subst IsRising h.all (rising-front F _ r)) b one.1
          in
          let m = stands_before F _ _ f r d (Contains-push [] f) in
          apart (sym here ∙ same_object_between (address g) (address one.0) (address f) l m
          (k ∙ sym e) ∙ e)
    ]

pub none_first : (F : List Fact) (key : Key) → F ≡ [] → IsFirstOf F key
none_first F _ e f c k = in_nothing f (rw e at c)

pub begun : {F : List Fact} (f : Fact) {objects : List Told} {progress : Option Progress}
    (object : OpenObject) → AreTold F objects → length objects ≤ length F → IsFirstOf F object.key →
    (address f).key ≡ object.key → StateIs object.key (f ∷ []) progress object.state →
    object.conflicts ≡ conflict_in object.key f → HasOpen (F ++ f ∷ []) objects progress object
begun {F} f object told few first e state count = record {
  before = F;
  mine = f ∷ [];
  all = refl;
  told = told;
  few = few;
  first = first;
  of_object = λ g c. elim (Contains-push_cases [] f g c) [
    | inl d ↦ absurd (in_nothing g d)
    | inr x ↦ cc
  ];
  some = (f, Contains-push [] f);
  state_is = state;
  counted = omega arith;
}

-- ---- one more fact of the object

pub mine_rising : {F : List Fact} (f : Fact) {objects : List Told} {progress : Option Progress} {object : OpenObject}
    (h : HasOpen F objects progress object) → IsRising (F ++ f ∷ [])
    → IsRising (h.mine ++ f ∷ [])
mine_rising f h r =
    rising-back _ _ (rw (ap (λ l. l ++ f ∷ []) h.all ∙ append_assoc h.before h.mine (f ∷ [])) at r)

pub one_more_open : {F : List Fact} (f : Fact) {objects : List Told} {progress : Option Progress}
    (progress' : Option Progress) {object : OpenObject} (state : ObjectState)
    (h : HasOpen F objects progress object) → (address f).key ≡ object.key → StateIs object.key
    (h.mine ++ f ∷ []) progress' state → {n : ℕ} → n ≡ object.conflicts + conflict_in object.key f →
    HasOpen (F ++ f ∷ []) objects progress'
    (record { key = object.key; state = state; conflicts = n })
one_more_open f progress' {object} state h e s count = record {
  before = h.before;
  mine = h.mine ++ f ∷ [];
  all = cc (append_assoc h.before h.mine (f ∷ []));
  told = h.told;
  few = h.few;
  first = h.first;
  of_object = λ g c. elim (Contains-push_cases _ f g c) [
    | inl d ↦ h.of_object g d
    | inr x ↦ cc
  ];
  some = (h.some.0, Contains-append_left _ _ _ h.some.1);
  state_is = s;
  counted = omega (arith, sum_by_push (conflict_in object.key) h.mine f);
}

-- a symbol that has two values is a conflict
pub conflict_by : (key k : Key) (n : SymbolId × Option (Bor (List ℕ))) → key ≡ k
    → conflicts_in n.1 ≡ conflict_in key (next_fact k n)
conflict_by _ k (id, Some bytes) e = refl
conflict_by key k (id, None) e = sym (cc (key_itself key))

-- and there are no more of them than facts
one_at_most : (key : Key) (f : Fact) → conflict_in key f ≤ 1
one_at_most key (Info k info) = omega arith
one_at_most key (InfoConflict k) = omega arith
one_at_most key (Symbol k id b) = omega arith
one_at_most key (SymbolConflict k id) =
    let P : Bool → Type 0 = λ b. one_if b ≤ 1 in
    let cases : (b : Bool) → P b = λ b. elim b as P [ true ↦ omega arith | false ↦ omega arith ]
    in cases (same_key k key)

-- a held symbol is one at most
pub one_by : (value : Option (Bor (List ℕ))) → conflicts_in value ≤ 1
one_by None = omega arith
one_by (Some bytes) = omega arith

few_conflicts : (F : List Fact) (key : Key) → conflicts_of F key ≤ length F
few_conflicts [] key = omega arith
few_conflicts (f ∷ F) key = omega
    (arith, one_at_most key f, few_conflicts F key, sum_by-cons (conflict_in key) f F)

pub open_few : {F : List Fact} {objects : List Told} {progress : Option Progress}
    {object : OpenObject} → HasOpen F objects progress object → object.conflicts ≤ length F
open_few {object} h = omega (arith, few_conflicts h.mine object.key, ap length h.all, length-append h.before h.mine)

-- those of an object of which all facts came
pub all_counted : {F : List Fact} {objects : List Told} {progress : Option Progress}
    {object : OpenObject} → HasOpen F objects progress object
    → conflicts_of F object.key ≡ object.conflicts
all_counted {object} h = omega (arith, ap (λ l. conflicts_of l object.key) h.all, sum_by-append (conflict_in object.key) h.before h.mine, none_counted _ _ h.first)

pub on_ok : {T E A B : Type 0} (r : Result T E) → (A → B) → OnOk r A → OnOk r B
on_ok (Ok x) f h = f h
on_ok (Err x) f h = h

-- a symbol of an object without one information
over : (key : Key) (mine : List Fact) (progress : Option Progress) (state : ObjectState) (k : Key)
    (n : SymbolId × Option (Bor (List ℕ)))
    → (state ≡ NoInformation) ⊎ (state ≡ ConflictingInformation)
    → StateIs key mine progress state → StateIs key (mine ++ next_fact k n ∷ []) progress state
over _ mine _ NoInformation k n is s = (no_information _ n k s.0, s.1)
over key mine _ ConflictingInformation k n is s = (Contains-append_left _ _ _ s.0, s.1)
over key mine progress (OneInformation scan) k n (inl e) s = absurd cc
over key mine progress (OneInformation scan) k n (inr e) s = absurd cc

pub passes_over : {F : List Fact} {objects : List Told} {progress : Option Progress}
    {object : OpenObject} (h : HasOpen F objects progress object) (k : Key)
    (n : SymbolId × Option (Bor (List ℕ)))
    → (object.state ≡ NoInformation) ⊎ (object.state ≡ ConflictingInformation)
    → StateIs object.key (h.mine ++ next_fact k n ∷ []) progress object.state
passes_over {progress} {object} h k n is = over _ _ _ _ k n is h.state_is

module _ {mine : List Fact} {key : Key} {progress : Option Progress} {scan : ScanState}
    (h : HasScanned key mine progress scan) (k : Key) (same : key ≡ k)
    (n : SymbolId × Option (Bor (List ℕ))) where
  -- the next symbol may be passed by the scan
  pub scan_rising : IsRising (mine ++ next_fact k n ∷ []) → CanFollow h.scanned (Some n)
  scan_rising r = rw (h.of_key ∙ same) (subst (λ l. IsRising (l ++ next_fact k n ∷ [])) (sym h.facts_are) r)

  pub passes_scan : {scan' : ScanState} {t : Scanned} → PassesOn h.scanned (Some n) t → Scans scan'
      t → StateIs key (mine ++ next_fact k n ∷ []) (Some (progress_of t)) (OneInformation scan')
  passes_scan {t} p s =
      let o = h.scanned in
      let broken : t.bytes ≡ None → IsBroken o.key (o.facts ++ next_fact o.key n ∷ []) = λ none F
      before rest e r. p.broken none F (record {
        before = before;
        rest = next_fact o.key n ∷ rest;
        all = cc (append_assoc o.facts (next_fact o.key n ∷ []) rest);
        rising = r;
        come = (rest, refl);
      }) in record {
        scanned = t;
        scans = s;
        of_key = cc;
        facts_are = cc;
        free = p.passed.2;
        so_far = refl;
        broken = λ none. rw p.passed.0 (subst (IsBroken o.key) (sym p.passed.1) (broken none));
      }

-- ---- the end of the object

-- what is told at the end of an object without one information
none_of : (F : List Fact) (key : Key) (o : Option Fact) → fact_at F (info_address key) ≡ o → info_at
    o ≡ None → gaps_at F key o ≡ [] → bytes_at F key o ≡ None → EndsAs (told_of F key) None
none_of F key o e i g b = record { key = tt; info = cc; gaps = cc; bytes = cc }

whole_bytes : (F : List Fact) (key : Key) (info : Information) → Whole F key info
    → bytes_at F key (fact_at F (info_address key)) ≡ Some (object_of F key info)
whole_bytes F key info h =
    let none = sym (runs-listed _) ∙ ap (flat_map listed) (whole-gapless F _ _ h) in
    ap (bytes_at F key) h.information ∙ ap (bytes_wanting F key info) none

no_bytes : (F : List Fact) (key : Key) (info : Information) (ws : List (SymbolId × Reason))
    (g : Gap) (gs : List Gap) → runs ws ≡ g ∷ gs → bytes_wanting F key info ws ≡ None
unfolding runs
no_bytes F key info [] g gs e = absurd cc
no_bytes F _ _ (w ∷ ws) g gs e = refl

lacking_bytes : (F : List Fact) (key : Key) (first : SymbolId) → IsNotWhole F key first
    → bytes_at F key (fact_at F (info_address key)) ≡ None
lacking_bytes F key _ h = ap (bytes_at F key) h.information ∙ no_bytes F _ _ _ _ _ h.gaps_are

module _ {F before mine : List Fact} (last : EndsIn F before mine) where
  pub no_information_told : {key : Key} {progress : Option Progress} → HoldsObject F key
      → IsFirstOf before key → StateIs key mine progress NoInformation
      → TellsAll F key Status.NoInformation progress
  no_information_told {key} heard first s =
      let none = fact_at-none F _ (λ f c e. elim (Contains-append_cases _ _ f (rw (← last.all) c)) [
        | inl d ↦ first f d (ap (λ a. a.key) e)
        | inr d ↦ s.0 f d (ap (λ a. a.part) e)
      ]) in ((heard, none), rw s.1 (none_of F _ _ none refl refl refl))

  pub conflict_told : (key : Key) (progress : Option Progress) → StateIs key mine progress
      ConflictingInformation → TellsAll F key Status.ConflictingInformation progress
  conflict_told key _ s =
      let one = rising_tells F _ last.rising (rw last.all (Contains-append_right _ _ _ s.0)) in
      (one, rw s.1 (none_of F _ _ one refl refl refl))

  module _ {key : Key} {progress : Option Progress} {scan : ScanState}
      (h : HasScanned key mine progress scan) {t : Scanned} (p : PassesOn h.scanned None t) where
    pub scan_gave : GaveAll t F
    scan_gave = p.passed.2 F (record {
      before = before;
      rest = [];
      all = cc (append-nil t.facts);
      rising = last.rising;
      come = tt;
    })

    has_gap : t.bytes ≡ None → HasGap F t.key
    has_gap none = rw p.passed.0 (p.broken none F (record {
      before = before;
      rest = [];
      all = last.all ∙ ap (λ l. before ++ l) (sym (append-nil h.scanned.facts ∙ h.facts_are));
      rising = last.rising;
      come = tt;
    }))

    -- its bytes are those that were told
    bytes_told : (o : Option (List ℕ)) → t.bytes ≡ o → bytes_at F t.key
        (fact_at F (info_address t.key)) ≡ option_map (λ bytes. take t.info.transfer_length bytes) o
    bytes_told None e = let g = has_gap e in lacking_bytes F _ _ g.1
    bytes_told (Some b) e =
        let w = rw e at scan_gave.whole in
        whole_bytes F _ _ w.0 ∙ ap Some w.1

    pub scan_told : (status : Status) → TellsStatus F t.key status
        → TellsAll F key status (Some (progress_of t))
    scan_told status told =
        let gave = scan_gave in
        let here : TellsAll F t.key status (Some (progress_of t)) =
        (told, record { key = refl; info = cc; gaps = cc; bytes = bytes_told _ refl }) in rw
        (← p.passed.0 ∙ h.of_key) here

-- the report of the open object, with those before it
pub one_more_closed : {F : List Fact} {objects : List Told} {progress : Option Progress} {object : OpenObject} (h : HasOpen F objects progress object)
    → IsRising F → AreTold F (objects ++ told_of F object.key ∷ [])
one_more_closed {objects} {object} h r =
    let all = one_more_told _ _ (rw (← h.all) r) h.told h.first h.of_object h.some in
    rw h.all all

pub heard_open : {F : List Fact} {objects : List Told} {progress : Option Progress}
    {object : OpenObject} (h : HasOpen F objects progress object) → HoldsObject F object.key
heard_open {F} {object} h =
    let f = h.some in
    holds-from F _ _ (subst (λ l. Contains l f.0) (sym h.all)
    (Contains-append_right _ _ _ f.1)) (h.of_object f.0 f.1)

some_long : (mine : List Fact) (f : Fact) → Contains mine f → 1 ≤ length mine
some_long mine f c = omega arith

-- the objects before are fewer than the facts
pub before_short : {F : List Fact} {objects : List Told} {progress : Option Progress} {object : OpenObject} (h : HasOpen F objects progress object)
    → length h.before + 1 ≤ length F
before_short {F} {objects} {progress} {object} h = omega
    (arith, some_long _ _ h.some.1, ap length h.all, length-append h.before h.mine)

-- nothing came
pub none_open : (F : List Fact) → F ≡ [] → AreTold F []
none_open F e = rw e none_told

-- and the visitor was told of it
pub all_has : {At V : Type 0} (Has : At → List Told → Option Progress → V → Type 0) (at : At)
    {F : List Fact} {objects : List Told} (visitor : V) {E : Type 0}
    → AreTold F objects → length objects ≤ length F → (r : Result (Unit {0}) E)
    → OnOk r (Has at objects None visitor) → OnOk r (HasAll Has at F visitor)
all_has Has at _ _ _ (Err x) h = tt
all_has Has at {objects} _ told few (Ok x) h =
    record { objects = objects; told = told; few = few; has = h }

-- nothing came yet
pub none_walked : {At V : Type 0} (Has : At → List Told → Option Progress → V → Type 0) (at : At)
    (visitor : V) {walk : Option OpenObject} → walk ≡ None → Has at [] None visitor
    → Stands Has at [] walk visitor
none_walked Has at _ e none = record {
  objects = [];
  progress = None;
  walks = rw e (refl, refl, refl);
  has = none;
}
