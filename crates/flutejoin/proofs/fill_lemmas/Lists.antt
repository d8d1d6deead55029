-- Lines of gaps in their order, and what they ask for (specs/FillLists).
use Rattle.std.proofs.Common.{◌≡◌, Bool, true, false, List, [], ◌∷◌, ◌++◌, Option, Some, None}
use Rattle.std.proofs.Common.{refl, sym, ap, ◌∙◌, subst, inl, inr, cond, append_assoc}
use Rattle.std.specs.Prelude.{◌||◌}
use Rattle.std.proofs.lemmas.Bool.{cases_Bool, false≢true}
use Rattle.std.proofs.lemmas.List.Folds.{list_any-append}
use Rattle.flute_parts.specs.Addresses.{address}
use Rattle.flute_parts.specs.Order.{same_key}
use Rattle.flute_parts.specs.declared.address.Address.{Address}
use Rattle.flute_parts.specs.declared.fact.Fact.{Fact}
use Rattle.flute_parts.specs.declared.key.Key.{Key}
use Rattle.flute_store.specs.declared.gap.Gap.{Gap}
use Rattle.flute_store.specs.declared.status.Status.{Status}
use Rattle.flutejoin.specs.FillLists.{AreInOrder, MayCome, asks, is_missing_by, is_missing_in}
use Rattle.flutejoin.specs.FillLists.{last_of, status_in, wants}
use Rattle.flutejoin.specs.FillStreams.{IsBehind, IsOf, Knows, asks_at, is_behind, is_behind_line}
use Rattle.flutejoin.specs.FillStreams.{line_of, missing_at, object_after}
use Rattle.flutejoin.specs.FillStreams.{status_at}
use Rattle.flutejoin.specs.declared.fill.asking.Asking.{Asking}
use Rattle.flutejoin.specs.declared.fill.gap_list.LastLine.{LastLine}
use Rattle.flutejoin.specs.declared.fill.gap_list.LastLine.TheVariants.{Unread, Ended}
use Rattle.flutejoin.specs.declared.fill.gap_list.LastLine.TheVariants.{Line as Held}
use Rattle.flutejoin.specs.declared.fill.gap_list.ListedObject.{ListedObject}
use Rattle.flutejoin.specs.declared.fill.listed_line.ListedLine.{ListedLine}
use Rattle.flutejoin.specs.declared.fill.listed_line.ListedLine.TheVariants.{Object as ObjectLine}
use Rattle.flutejoin.specs.declared.fill.listed_line.ListedLine.TheVariants.{Gap as GapLine}
use Rattle.flutejoin.proofs.fill_lemmas.Behind.{ahead_object, ahead_tells, behind_before}
use Rattle.flutejoin.proofs.fill_lemmas.Behind.{behind_object, behind_tells}

-- lists

pub last_more : (p : Option ListedLine) (xs : List ListedLine) (l : ListedLine)
    → last_of p (xs ++ l ∷ []) ≡ Some l
last_more p [] l = refl
last_more p (x ∷ xs) l = last_more _ xs l

pub in_order_more : (p : Option ListedLine) (xs : List ListedLine) (l : ListedLine)
    → AreInOrder p xs → MayCome (last_of p xs) l → AreInOrder p (xs ++ l ∷ [])
unfolding AreInOrder
in_order_more p [] l o m = (m, tt)
in_order_more p (x ∷ xs) l o m = (o.0, in_order_more _ xs l o.1 m)

-- the lines after the others
pub in_order_after : (p : Option ListedLine) (xs ys : List ListedLine) → AreInOrder p (xs ++ ys)
    → AreInOrder (last_of p xs) ys
unfolding AreInOrder
in_order_after p [] ys o = o
in_order_after p (x ∷ xs) ys o = in_order_after _ xs _ o.1

-- how much is held

pub status_append : (xs ys : List ListedLine) (key : Key) → status_in xs key ≡ None
    → status_in (xs ++ ys) key ≡ status_in ys key
unfolding status_in
status_append [] ys _ n = refl
status_append (GapLine k gap ∷ xs) ys key n = status_append xs _ _ n
status_append (ObjectLine k status ∷ xs) ys key n = elim (cases_Bool _) [
  | inl e ↦ absurd (some_none _
      (sym (subst (λ b. cond b (Some status) (status_in xs key) ≡ None) e n)))
  | inr e ↦ subst (λ b. cond b (Some status) (status_in (xs ++ ys) key) ≡ status_in ys key) (sym e)
      (status_append xs _ _ (subst (λ b. cond b (Some status) (status_in xs key) ≡ None) e n))
]
  where
    some_none : (s : Status) → None ≡ Some s → ⊥
    some_none s e = cc

-- no more is told of it
pub status_append_none : (xs ys : List ListedLine) (key : Key) → status_in ys key ≡ None
    → status_in (xs ++ ys) key ≡ status_in xs key
unfolding status_in
status_append_none [] ys _ n = n
status_append_none (GapLine k gap ∷ xs) ys key n = status_append_none xs _ _ n
status_append_none (ObjectLine k status ∷ xs) ys key n =
    ap (λ s. cond (same_key k key) (Some status) s) (status_append_none xs _ _ n)

or_none : (a b : Bool) → a ≡ false → (a || b) ≡ b
or_none false b e = refl
or_none true b e = absurd (false≢true (sym e))

status_nil : (key : Key) → status_in [] key ≡ None
unfolding status_in
status_nil _ = refl

status_alone : (key k : Key) (status : Status) → status_in (ObjectLine key status ∷ []) k ≡
    status_at (Some (record { key = key; status = status })) k
unfolding status_in
status_alone _ k _ = refl

status_gap : (key k : Key) (gap : Gap) → status_in (GapLine key gap ∷ []) k ≡ None
unfolding status_in
status_gap _ k _ = refl

status_ahead : (m : ListedLine) (rest : List ListedLine) (a : Address) → is_behind_line m a ≡ false
    → status_in rest a.key ≡ None → status_in (m ∷ rest) a.key ≡ None
unfolding status_in
status_ahead (ObjectLine k status) rest a n e = rw (ahead_object k a n) e
status_ahead (GapLine k gap) _ a n e = e

-- lines after one that is not behind an address tell nothing of it
pub ahead : (l : ListedLine) (rest : List ListedLine) (a : Address) → AreInOrder (Some l) rest →
    is_behind_line l a ≡ false → (status_in rest a.key ≡ None) × (is_missing_in rest a ≡ false)
unfolding AreInOrder
ahead l [] a o h = (status_nil _, refl)
ahead l (m ∷ rest) a o h =
    let not : is_behind_line m a ≡ false = elim (cases_Bool _) [
      | inl e ↦ absurd (false≢true (sym h ∙ behind_before l m a o.0 e))
      | inr e ↦ e
    ] in
    let later = ahead m rest a o.1 not in
    (status_ahead m _ a not later.0, or_none _ _ (ahead_tells l m a o.0 h) ∙ later.1)

-- what is known by the line that is held

held_tells : (l : ListedLine) (a : Address) → is_behind_line l a ≡ false
    → status_in (l ∷ []) a.key ≡ None
unfolding status_in
held_tells (ObjectLine k status) a h = ap (λ b. cond b (Some status) None) (ahead_object k a h)
held_tells (GapLine k gap) a h = refl

-- what is left of the lines tells of the address only by the line that is held
left_tells : (last : LastLine) (passed rest : List ListedLine) (a : Address) → AreInOrder None
    ((passed ++ line_of last) ++ rest) → (last ≡ Ended → rest ≡ []) → is_behind last (Some a) ≡
    false → (status_in (line_of last ++ rest) a.key ≡ None) ×
    (is_missing_in (line_of last ++ rest) a ≡ missing_at last a)
left_tells Unread _ _ a o n h = absurd (false≢true (sym h))
left_tells Ended _ _ a o n h =
    let e = n refl in
    rw e (status_nil _, refl)
left_tells (Held l) passed rest a o n h =
    let order = rw (last_more None passed l) at (in_order_after _ (passed ++ l ∷ []) rest o) in
    let later = ahead l _ a order h in (
      status_append _ _ _ (held_tells l a h) ∙ later.0,
      cc (or_false _),
    )
  where
    or_false : (b : Bool) → (b || false) ≡ b
    or_false true = refl
    or_false false = refl

-- whether a fact is asked for is known once the line that is held is not behind it, whatever
-- lines follow
module _ (asking : Asking) (passed rest : List ListedLine) where
  pub decided : (object : Option ListedObject) (last : LastLine) (f : Fact) → Knows passed object
      → IsBehind (last_of None passed) (address f)
      → AreInOrder None ((passed ++ line_of last) ++ rest) → (last ≡ Ended → rest ≡ [])
      → is_behind last (Some (address f)) ≡ false
      → asks asking ((passed ++ line_of last) ++ rest) f ≡ asks_at asking object last (address f)
  decided object last f knows reached o n h =
      let a = address f in
      let left = left_tells _ _ _ a o n h in
      let assoc = append_assoc passed (line_of last) rest in
      let status = ap (λ x. status_in x a.key) assoc ∙ status_append_none _ _ _ left.0 ∙
      knows.status a reached in
      let missing = ap (λ x. is_missing_in x a) assoc ∙ list_any-append (is_missing_by a) passed
      (line_of last ++ rest) ∙ or_none _ _ (knows.none_missing a reached) ∙ left.1 in ap
      (λ s. wants asking s (is_missing_in ((passed ++ line_of last) ++ rest) a) a.part) status ∙ ap
      (λ b. wants asking (status_at object a.key) b a.part) missing

-- nothing is known before the first line
pub knows_nothing : Knows [] None
knows_nothing = record { of_last = tt; status = λ a h. status_nil _; none_missing = λ a h. refl }

none_before : (object : Option ListedObject) (p : Option ListedLine) (key : Key) (status : Status)
    (a : Address) → IsOf object p → MayCome p (ObjectLine key status)
    → is_behind_line (ObjectLine key status) a ≡ true → status_at object a.key ≡ None
none_before None p _ _ a i m h = refl
none_before (Some o) None _ _ a i m h = absurd i
none_before (Some o) (Some p) key _ a i m h = ap (λ b. cond b (Some o.status) None)
    (behind_object _ _ a (cc) h)

status_more : (passed : List ListedLine) (object : Option ListedObject) (l : ListedLine)
    (a : Address) → IsOf object (last_of None passed) → MayCome (last_of None passed) l
    → is_behind_line l a ≡ true → status_in passed a.key ≡ status_at object a.key
    → status_in (passed ++ l ∷ []) a.key ≡ status_at (object_after object l) a.key
status_more passed object (ObjectLine key status) a i m h e = status_append _ _ _
    (e ∙ none_before _ _ _ _ a i m h) ∙ status_alone _ _ _
status_more passed _ (GapLine key gap) a i m h e = status_append_none _ _ _ (status_gap _ _ _) ∙ e

same_object : (object : Option ListedObject) (p : Option ListedLine) (l : ListedLine)
    → IsOf object p → MayCome p l → IsOf (object_after object l) (Some l)
same_object _ p (ObjectLine key status) i m = refl
same_object None None (GapLine key gap) i m = m
same_object None (Some p) (GapLine key gap) i m = i
same_object (Some o) None (GapLine key gap) i m = absurd i
same_object (Some o) (Some p) (GapLine key gap) i m = i ∙ m.1

before_it : (p : Option ListedLine) (l : ListedLine) (a : Address) → MayCome p l
    → is_behind_line l a ≡ true → IsBehind p a
before_it None l a m h = tt
before_it (Some p) l a m h = behind_before p l a m h

-- a line is let go of
pub knows_more : (passed : List ListedLine) (object : Option ListedObject) (l : ListedLine)
    → Knows passed object → MayCome (last_of None passed) l
    → Knows (passed ++ l ∷ []) (object_after object l)
knows_more passed object l k m = record {
  of_last = rw (last_more None passed l) (same_object _ _ l k.of_last m);
  status = λ a h. status_more _ _ l a k.of_last m (behind a h)
      (k.status a (before_it _ l a m (behind a h)));
  none_missing = λ a h. list_any-append (is_missing_by a) passed (l ∷ [])
      ∙ or_none _ _
      (k.none_missing a (before_it _ l a m (behind a h)))
      ∙ or_none _ _ (behind_tells l a (behind a h));
}
  where
    behind : (a : Address) → IsBehind (last_of None (passed ++ l ∷ [])) a
        → is_behind_line l a ≡ true
    behind a h = rw (last_more _ passed l) at h
