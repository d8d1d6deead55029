-- ObjectWriter: a writer of one object, fact by fact (specs/ObjectWriters).
use Rattle.std.proofs.lemmas.Grind.{common_steps}
use Rattle.std.proofs.Common.{rules}
use Rattle.std.proofs.Common.{◌≡◌, ℕ, zero, suc, ◌-◌, Bool, true, false, List, [], ◌∷◌, ◌++◌}
use Rattle.std.proofs.Common.{length, take, Option, Some, None, inl, inr, refl, sym, ap, ◌∙◌}
use Rattle.std.proofs.Common.{subst, append_assoc, append-nil, arith}
use Rattle.std.specs.Prelude.{Contains, ◌⊎◌, IfSome, option_map}
use Rattle.std.specs.Borrow.{Bor}
use Rattle.std.specs.List.{AllByRecursion}
use Rattle.std.specs.Io.KnownBytes.{Appends}
use Rattle.std.proofs.KnownBytes.{Appends-nil}
use Rattle.std.proofs.Math.Seq.{take-append_seam, take-nil}
use Rattle.std.proofs.lemmas.List.{length-append, take-append-drop}
use Rattle.std.proofs.lemmas.List.Elements.{Contains-append_left}
use Rattle.flute_parts.specs.Addresses.{address, info_address, symbol_address}
use Rattle.flute_parts.specs.Facts.{IsRising}
use Rattle.flute_parts.specs.Information.{Information, IsValid}
use Rattle.flute_parts.specs.declared.fact.Fact.{Fact}
use Rattle.flute_parts.specs.declared.fact.Fact.TheVariants.{Info}
use Rattle.flute_parts.specs.declared.key.Key.{Key}
use Rattle.flute_parts.specs.declared.symbol_id.SymbolId.{SymbolId}
use Rattle.flute_parts.specs.Partition.{ids}
use Rattle.flute_parts.proofs.Public.{rising_tells}
use Rattle.flute_store.specs.Extract.{IsNotWhole, WritesWhole}
use Rattle.flute_store.specs.Objects.{Whole, object}
use Rattle.flute_store.proofs.Public.{object-length}
use Rattle.flute_store.specs.declared.gap.Gap.{Gap}
use Rattle.flute_store.specs.declared.turn.Turn.{Turn}
use Rattle.flute_store.specs.declared.turn.Turn.TheVariants as turns
use Rattle.flute_store.specs.Scan.{Scanned, Turned, next_fact, value_of, IsFirstPart, Follows}
use Rattle.flute_store.specs.Scan.{CanCome, PassedNext, PartOf, GaveAll, at_begin}
use Rattle.flute_store.specs.Scans.{Scans}
use Rattle.flute_journal.specs.JournalWriters.{Written, PutsBytes}
use Rattle.flute_journal.proofs.Public.{all_more, written-more}
use Rattle.flutejoin.specs.ObjectWriters.{Settled, IsOther, WroteFirst, Scanning, HasFound}
use Rattle.flutejoin.specs.ObjectWriters.{EndsScan, WritesNothing, NoneWritten, information_fact}
use Rattle.flutejoin.specs.declared.extract.object_writer.WholeSoFar.{WholeSoFar}
use Rattle.flutejoin.specs.declared.extract.object_writer.Found.{Found}
use Rattle.flutejoin.specs.declared.extract.object_writer.Found.TheVariants as found
use Rattle.flutejoin.proofs.extract_lemmas.ObjectFacts.{rising-back, here, settled-more, together}
use Rattle.flutejoin.proofs.extract_lemmas.ObjectFacts.{information-once}
use Rattle.flutejoin.proofs.gaps_lemmas.ObjectsListed.{in_nothing}

pub take-append : (n : ℕ) (xs ys : List ℕ) → take n (xs ++ ys) ≡ take n xs ++ take (n - length xs)
    ys
take-append n [] ys = grind (arith, common_steps)
take-append zero (x ∷ xs) ys = grind (arith, common_steps)
take-append (suc n) (x ∷ xs) ys = grind (arith, common_steps, take-append n xs ys)

wrote-more : (P : List Fact) (f : Fact) (key : Key) (start now : Option (List ℕ)) → WroteFirst P
    key start now → WroteFirst (P ++ f ∷ []) key start now
wrote-more P f key _ _ w = record {
  info = w.info;
  bytes = w.bytes;
  count = w.count;
  held = settled-more P f _ w.held;
  appended = w.appended;
}

pub told-at : (key : Key) (id : SymbolId) (value : Option (Bor (List ℕ))) → address
    (next_fact key (id, value)) ≡ symbol_address key id
told-at = search rules

-- a fact of another object passes
pub other-passes : (P : List Fact) (f : Fact) {key : Key} (failed : Bool)
    (start now : Option (List ℕ)) (what : Found) → IsOther key f
    → HasFound P key failed start now what → HasFound (P ++ f ∷ []) key failed start now what
other-passes P f {key} _ _ _ found.Nothing o h = (all_more _ P f h.0 o, h.1)
other-passes P f _ _ _ found.Symbols o h = (settled-more P f _ h.0, h.1)
other-passes P f _ _ _ found.Conflict o h = (settled-more P f _ h.0, h.1)
other-passes P f {key} _ start now (found.NotWhole first) o h =
    (settled-more P f _ h.0, wrote-more P f _ _ _ h.1)
other-passes P f {key} _ _ _ (found.Whole object) o h = record {
  scanned = h.scanned;
  scans = h.scans;
  free = h.free;
  part = h.part;
  of_key = h.of_key;
  valid = h.valid;
  symbols = h.symbols;
  begins = h.begins;
  before = h.before;
  after = h.after ++ f ∷ [];
  all = cc (h.all, append_assoc h.before (h.scanned.facts ++ h.after) (f ∷ []), append_assoc h.scanned.facts h.after (f ∷ []));
  others = all_more _ _ f h.others o;
  bytes = h.bytes;
  values = h.values;
  size = h.size;
  left = h.left;
  written = h.written;
}

module _ {P : List Fact} {key : Key} {failed : Bool} {start now : Option (List ℕ)}
    {part : WholeSoFar} (h : Scanning P key failed start now part) where
  abbrev info_fact : Fact
  info_fact = Info key h.scanned.info

  begins_with : h.scanned.facts ≡ info_fact ∷ h.symbols
  begins_with = h.begins

  all_are : P ≡ h.before ++ (info_fact ∷ h.symbols ++ h.after)
  all_are = search rules

  has_information : Contains P info_fact
  has_information = subst (λ l. Contains l info_fact) (sym all_are) (here _ _ _)

  -- information of it cannot follow
  pub no-information : (f : Fact) → address f ≡ info_address key → IsRising (P ++ f ∷ []) → ⊥
  no-information f at r = information-once key P _ f has_information (sym at) r

  -- a symbol of it directly follows those that were read, with no fact between
  pub nothing-after : (f : Fact) → (address f).key ≡ key → IsRising (P ++ f ∷ []) → h.after ≡ []
  nothing-after f is r = together _ _ _ _ f is h.others
      (subst (λ l. IsRising (l ++ f ∷ [])) all_are r)

  all_before : (f : Fact) → h.after ≡ [] → (rest : List Fact) → (P ++ f ∷ []) ++ rest ≡ h.before ++
      (h.scanned.facts ++ f ∷ rest)
  all_before f e rest = grind (arith, common_steps)

  -- a prefix of it was written, whatever follows
  pub wrote-first : WroteFirst P key start now
  wrote-first =
      let w = some_written _ _ _ _ _
      _ (take-append-drop part.size h.bytes) h.written in
      record {
        info = h.scanned.info;
        bytes = h.bytes;
        count = w.0;
        appended = w.1;
        held = λ F rest e r. record {
          information = rising_tells F _ r (subst (λ l. Contains l info_fact) (sym e)
              (Contains-append_left P _ _ has_information));
          first = rw h.of_key at (part_of h.values h.part F _ _
              (e ∙ ap (λ l. l ++ rest) h.all ∙ append_assoc h.before (h.scanned.facts ++ h.after)
              rest ∙ ap (λ l. h.before ++ l) (append_assoc h.scanned.facts h.after rest)) r);
        };
      }
    where
      some_written : (b : Bool) (u v : Option (List ℕ)) (front back all : List ℕ) → front ++ back ≡
          all → Written b u v front → (count : ℕ) × Appends u v (take count all)
      some_written false u v front back _ e w = (
        length front,
        subst (Appends u v)
            (sym (take-append_seam front back) ∙ ap (take (length front)) e) w,
      )
      some_written true u v _ back _ e w = (
        length w.part,
        subst (Appends u v) (sym (take-append_seam w.part (w.rest ++ back)) ∙ ap
            (take (length w.part)) (sym (append_assoc w.part w.rest back) ∙ ap (λ l. l ++ back)
            (sym w.whole) ∙ e)) w.appended,
      )

      part_of : {bytes : List ℕ} → h.scanned.bytes ≡ Some bytes → PartOf h.scanned
          → (F before rest : List Fact) → F ≡ before ++ (h.scanned.facts ++ rest) → IsRising F →
          IsFirstPart F h.scanned.key h.scanned.info bytes
      part_of {bytes} e q =
          let Q : Option (List ℕ) → Type 0 = λ o. IfSome o
          (λ bytes. (F before rest : List Fact) → F ≡ before ++ (h.scanned.facts ++ rest) →
          IsRising F → IsFirstPart F h.scanned.key h.scanned.info bytes) in
          rw e at q

  -- The next fact is a symbol of the object.
  module _ (n : SymbolId × Option (Bor (List ℕ))) (rises : IsRising (P ++ next_fact key n ∷ []))
    where
      told_key : (address (next_fact key n)).key ≡ key
      told_key = search rules

      none_between : h.after ≡ []
      none_between = nothing-after _ told_key rises

      told_same : next_fact h.scanned.key n ≡ next_fact key n
      told_same = search rules

      pub next-rises : IsRising (h.scanned.facts ++ next_fact h.scanned.key n ∷ [])
      next-rises =
          let r = subst IsRising
          (sym (append-nil (P ++ next_fact key n ∷ [])) ∙ all_before _ none_between []) rises in
          subst (λ f. IsRising (h.scanned.facts ++ f ∷ [])) (sym told_same) (rising-back _ _ r)

      -- what is known of all that follows
      pub settled-next : (first : SymbolId) → IfSome h.scanned.bytes (λ bytes. (F : List Fact) →
          Follows h.scanned (Some n) F → IsNotWhole F h.scanned.key first) → Settled
          (P ++ next_fact key n ∷ []) (λ F. IsNotWhole F key first)
      settled-next first k = search (rules, all_before, none_between, told_same)

      pub wrote-next : WroteFirst (P ++ next_fact key n ∷ []) key start now
      wrote-next = search (rules, wrote-more, wrote-first)

      pub can-come : CanCome h.scanned (Some n)
      can-come = search rules

      -- the symbol was passed
      pub passed-next : {failed' : Bool} {now' : Option (List ℕ)} {new : WholeSoFar} {t : Scanned}
          (more : List ℕ) → PassedNext h.scanned n (Some (h.bytes ++ more)) t → Scans new.scan t →
          PartOf t → new.size ≡ part.size → new.left ≡ part.left - length more → PutsBytes failed
          failed' now now' (take part.left more) → Scanning (P ++ next_fact key n ∷ []) key failed'
          start now' new
      passed-next {failed'} {now'} {t} more p scans first size left puts =
          record {
            scanned = t;
            scans = scans;
            free = cc p.now;
            part = first;
            of_key = cc (p.now, h.of_key);
            valid = subst (λ s. IsValid s.info) (sym p.now) h.valid;
            symbols = h.symbols ++ next_fact h.scanned.key n ∷ [];
            begins = cc (p.now, h.begins);
            before = h.before;
            after = [];
            all =
                cc (append-nil (P ++ next_fact key n ∷ []), all_before _ none_between [], append-nil (h.scanned.facts ++ next_fact h.scanned.key n ∷ []), p.now);
            others = tt;
            bytes = h.bytes ++ more;
            values = cc p.now;
            size = cc (h.size, p.now);
            left = let l = h.left in omega (arith, left, l, size, length-append h.bytes more);
            written =
                subst (λ k. Written failed' start now' (take k (h.bytes ++ more))) (sym size)
                (subst (Written failed' start now') (sym (take-append _ _ _))
                (written-more _ _ _ _ _ _
                _ (
                  h.written,
                  subst (λ k. PutsBytes failed failed' now now' (take k more)) h.left puts,
                )));
          }

      -- it was the next of the partition, and its value was written
      pub fits-next : (t : Scanned) (more : List ℕ) → PassedNext h.scanned n
          (option_map (λ bytes. bytes ++ value_of n) h.scanned.bytes) t → value_of n ≡ more
          → PassedNext h.scanned n (Some (h.bytes ++ more)) t
      fits-next t more p e = search rules

      -- or nothing was
      pub idle-next : {new : WholeSoFar} {t : Scanned} → PassedNext h.scanned n h.scanned.bytes t →
          Scans new.scan t → PartOf t → new.size ≡ part.size → new.left ≡ part.left → Scanning
          (P ++ next_fact key n ∷ []) key failed start now new
      idle-next {t} p scans first size left =
          passed-next [] (subst (λ o. PassedNext h.scanned n o t)
          (h.values ∙ ap Some (sym (append-nil h.bytes))) p) scans first size
          (omega (arith, left))
          (subst (PutsBytes failed failed now now) (sym (take-nil part.left)) (puts-nothing _))
        where
          puts-nothing : (b : Bool) → PutsBytes b b now now []
          puts-nothing false = Appends-nil _
          puts-nothing true = Appends-nil _

      pub idle-fits : {new : WholeSoFar} {t : Scanned} → value_of n ≡ [] → PassedNext h.scanned n
          (option_map (λ bytes. bytes ++ value_of n) h.scanned.bytes) t → Scans new.scan t → PartOf
          t → new.size ≡ part.size → new.left ≡ part.left → Scanning (P ++ next_fact key n ∷ []) key
          failed start now new
      idle-fits {t} e p scans first size left = search (rules, idle-next, fits-next) steps 400000

  -- no symbol is left
  pub ended-whole : (t : Scanned) → IsRising P → t ≡ record h.scanned
      { coming = Some None; ahead = t.ahead } → ((F : List Fact) → Follows t None F → GaveAll t F)
      → EndsScan P key failed start now part None
  ended-whole t r e k =
      let u : Scanned = record h.scanned { coming = Some None; ahead = t.ahead } in
      let g = subst (λ x. (F : List Fact) → Follows x None F → GaveAll x F) e k P
      (record {
        before = h.before;
        rest = h.after;
        all = h.all;
        rising = r;
        come = none_left
            h.of_key h.others;
      }) in
      let Q : Option (List ℕ) → Type 0 = λ o. IfSome o (λ bytes. Whole P h.scanned.key
      h.scanned.info × (object P h.scanned.key h.scanned.info ≡ take
      h.scanned.info.transfer_length bytes)) in
      let w = subst Q h.values g.whole in
      let bytes = ap (λ n. take n h.bytes)
      h.size ∙ sym w.1 ∙ ap (λ k. object P k h.scanned.info) h.of_key in (
        h.scanned.info,
        rw h.of_key at w.0,
        h.size,
        h.valid,
        rw bytes at h.written,
      )
    where
      none_left : {k : Key} → k ≡ key → AllByRecursion (IsOther key) h.after → AllByRecursion
          (λ f. (address f).key ≡ k → ⊥) h.after
      none_left e o = rw (← e) at o

  pub none-can-come : CanCome h.scanned None
  none-can-come = search rules

  pub ended-gap : (first : SymbolId) → IsRising P → IfSome h.scanned.bytes
      (λ bytes. (F : List Fact) → Follows h.scanned None F → IsNotWhole F h.scanned.key first) →
      IsNotWhole P key first
  ended-gap first r k = search rules

-- of nothing, what comes next is a gap or the end
pub ended-turn : (s t : Scanned) (turn : Turn) → ((gap : Gap) → turn ≡ turns.Gap gap → ⊥) → Turned
    s None turn t → (t ≡ record s { coming = Some None; ahead = t.ahead }) ×
    ((F : List Fact) → Follows t None F → GaveAll t F)
ended-turn s t (turns.Gap gap) gapless h = absurd (gapless gap refl)
ended-turn s t turns.Fitting _ h = absurd h
ended-turn s t turns.Wanted _ h = absurd h
ended-turn s t turns.Passed _ h = absurd h
ended-turn s t turns.End _ h = h

-- a symbol that is wanted is the first that is not held as one fitting value
pub wanted-turn : (s t : Scanned) (n : SymbolId × Option (Bor (List ℕ))) (turn : Turn) →
    (turn ≡ turns.Wanted) ⊎ (turn ≡ turns.End) → Turned s (Some n) turn t
    → IfSome s.bytes (λ bytes. (F : List Fact) → Follows s (Some n) F → IsNotWhole F s.key n.0)
wanted-turn = search rules

-- the next fact is at the address of the object's information
pub record IsInformation (P : List Fact) (f : Fact) (key : Key) : Type 0 where
  pub at : address f ≡ info_address key
  pub rising : IsRising (P ++ f ∷ [])

-- so is a fact of its information
pub of_information : {P : List Fact} {key : Key} (info : Option Information) → IsRising
    (P ++ information_fact key info ∷ []) → IsInformation P (information_fact key info) key
of_information = search rules

-- the object may be whole, of which its information came
pub whole-begins : (P : List Fact) {key : Key} {failed : Bool} {start now : Option (List ℕ)}
    {info : Information} (part : WholeSoFar) → NoneWritten failed start now → Scans part.scan
    (at_begin key info) → IsValid info → part.size ≡ info.transfer_length → part.left ≡
    info.transfer_length → Scanning (P ++ Info key info ∷ []) key failed start now part
whole-begins P {key} {start} {now} {info} part none scans valid size left = record {
  scanned = at_begin key info;
  scans = scans;
  free = refl;
  part = λ F before rest all r. record {
    first = [];
    others = ids info;
    all = refl;
    held = λ id some. absurd (in_nothing _ some);
    values = refl;
  };
  of_key = refl;
  valid = valid;
  symbols = [];
  begins = refl;
  before = P;
  after = [];
  all = refl;
  others = tt;
  bytes = [];
  values = refl;
  size = size;
  left = omega (arith, size, left);
  written = subst (λ b. Written b start now (take part.size [])) (sym none.good) (subst
      (λ w. Appends start w (take part.size [])) (sym none.same)
      (subst (Appends start start) (sym (take-nil part.size)) (Appends-nil _)));
}

-- its information is read at most once
pub information-passes : {P : List Fact} {f : Fact} {key : Key} (failed : Bool)
    (start now : Option (List ℕ)) {what : Found} → (what ≡ found.Nothing → ⊥) → IsInformation P f
    key → HasFound P key failed start now what → HasFound (P ++ f ∷ []) key failed start now what
information-passes _ _ _ {what = found.Nothing} some _ h = absurd (some refl)
information-passes {P} {f} _ _ _ {what = found.Symbols} _ _ h = (settled-more P f _ h.0, h.1)
information-passes {P} {f} _ _ _ {what = found.Conflict} _ _ h = (settled-more P f _ h.0, h.1)
information-passes {P} {f} {key} failed start now {what = found.NotWhole first} some
    next h = search (rules, settled-more, wrote-more)
information-passes {f} _ _ _ {what = found.Whole object} _ next h =
    absurd (no-information h f next.at next.rising)

-- nothing more is to be known: something was found, and no object that may be whole
pub record IsKnown (what : Found) : Type 0 where
  pub some : what ≡ found.Nothing → ⊥
  pub not_whole : (part : WholeSoFar) → what ≡ found.Whole part → ⊥

-- a symbol passes where nothing more is to be known
pub symbol-passes : (P : List Fact) (f : Fact) (key : Key) (failed : Bool)
    (start now : Option (List ℕ)) {what : Found} → IsKnown what
    → HasFound P key failed start now what → HasFound (P ++ f ∷ []) key failed start now what
symbol-passes P f _ _ _ _ {what = found.Nothing} is h = absurd (is.some refl)
symbol-passes P f _ _ _ _ {what = found.Symbols} is h = (settled-more P f _ h.0, h.1)
symbol-passes P f _ _ _ _ {what = found.Conflict} is h = (settled-more P f _ h.0, h.1)
symbol-passes P f key _ start now {what = found.NotWhole first} is h =
    (settled-more P f _ h.0, wrote-more P f _ _ _ h.1)
symbol-passes P f _ _ _ _ {what = found.Whole object} is h = absurd (is.not_whole object refl)

-- what was written, whatever was found
pub wrote-some : (P : List Fact) (key : Key) (failed : Bool) (start now : Option (List ℕ))
    (what : Found) → HasFound P key failed start now what → WritesNothing what ⊎ WroteFirst P key
    start now
wrote-some P _ _ _ _ found.Nothing h = inl tt
wrote-some P _ _ _ _ found.Symbols h = inl tt
wrote-some P _ _ _ _ found.Conflict h = inl tt
wrote-some P _ _ _ _ (found.NotWhole first) h = inr h.1
wrote-some P _ _ _ _ (found.Whole object) h = inr (wrote-first h)

-- the results at the end

pub whole-written : (P : List Fact) (key : Key) (start now : Option (List ℕ)) (part : WholeSoFar)
    (failed : Bool) → failed ≡ false → EndsScan P key failed start now part None
    → WritesWhole (λ x. x) P key start now part.size
whole-written = search (rules, object-length)
