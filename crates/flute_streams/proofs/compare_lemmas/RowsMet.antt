-- The rows so far, as one address more is counted (specs/Counting).
use Rattle.std.proofs.Common.{◌≡◌, true, false, cond, Bool, ◌||◌, List, [], ◌∷◌, ◌++◌, refl}
use Rattle.std.proofs.Common.{sym, ap, ◌∙◌, inl, inr, ◌⊎◌, Option, Some, None, append-nil}
use Rattle.std.proofs.Common.{append_assoc, is_eq}
use Rattle.std.specs.Prelude.{map}
use Rattle.std.proofs.lemmas.Bool.{cases_Bool, false≢true}
use Rattle.std.proofs.lemmas.List.{map-append}
use Rattle.std.specs.declared.cmp.Ordering.TheVariants.{Less}
use Rattle.flute_parts.specs.declared.address.Address.{Address}
use Rattle.flute_parts.specs.declared.fact.Fact.{Fact}
use Rattle.flute_parts.specs.declared.key.Key.{Key}
use Rattle.flute_parts.specs.Equality.{key_itself, key_same}
use Rattle.flute_parts.specs.Order.{address_cmp, key_cmp, same_key}
use Rattle.flute_parts.specs.Totality.{key_total}
use Rattle.flute_streams.specs.Streams.{option_list}
use Rattle.flute_streams.specs.Compared.{is_listed, is_named, KeysRise}
use Rattle.flute_streams.specs.Compares.{keys_at, row_at}
use Rattle.flute_streams.specs.Counting.{counted}
use Rattle.flute_streams.specs.Counting.{new_row, row_for, side_of, to_tell, told_of}
use Rattle.flute_streams.specs.declared.merge.sides.Meeting.{Meeting}
use Rattle.flute_streams.specs.declared.merge.sides.Row.{Row}
use Rattle.flute_streams.proofs.compare_lemmas.CountedRows.{IsNext, or_none, told_here, told_new}
use Rattle.flute_streams.proofs.compare_lemmas.CountedRows.{told_off}
use Rattle.flute_streams.proofs.compare_lemmas.RowKeys.{after_last, key_of, listed_more, named_step}
use Rattle.flute_streams.proofs.compare_lemmas.RowKeys.{not_listed, or_nil, rise_more}

-- where the streams meet, the rows so far become those with what they held
module _ {p : Address} {F G : List Fact} {f g : Option Fact} (w : IsNext p F G f g)
    (n : f ≡ None → g ≡ None → ⊥) where
  abbrev rows_were : Key → Row
  rows_were = told_of F G

  abbrev rows_are : Key → Row
  rows_are = told_of (F ++ option_list f) (G ++ option_list g)

  abbrev m : Meeting
  m = record { at = p; side = side_of f g }

  abbrev AreNamed : List Key → Type 0
  AreNamed ks = (key : Key) → is_listed key ks ≡ (is_named key F || is_named key G)

  rows_stay : (ks : List Key) → ((k : Key) → is_listed k ks ≡ true → same_key k p.key ≡ false)
      → map rows_were ks ≡ map rows_are ks
  rows_stay [] h = refl
  rows_stay (k ∷ ks) h =
      ap (λ r. r ∷ map rows_were ks)
      (sym (told_off w k (h k (ap (λ b. b || is_listed k ks) (key_itself k)))))
      ∙ ap (λ l. rows_are k ∷ l) (rows_stay ks (λ x l. h x (or_more _ _ l)))
    where
      or_more : (a b : Bool) → b ≡ true → (a || b) ≡ true
      or_more true b e = refl
      or_more false b e = e

  -- the keys of a rising list, before the last, are not one after that
  before_apart : (x : Key) (ks : List Key) → KeysRise (ks ++ x ∷ []) → (key_cmp x p.key ≡ Less) ⊎
      (x ≡ p.key) → (k : Key) → is_listed k ks ≡ true → same_key k p.key ≡ false
  before_apart x [] r o k l = absurd (false≢true l)
  before_apart x (y ∷ ks) r o k l = elim (cases_Bool (same_key k y)) [
    | inl u ↦ let i = key_same k y u in
        let less = after_last y x ks r.0 in
        let under : key_cmp y p.key ≡ Less = elim o [
          | inl v ↦ key_total.trans y x p.key less v
          | inr v ↦ rw (← v) less
        ] in rw i (ap is_eq under)
    | inr u ↦ before_apart x ks r.1 o k (rw u at l)
  ]

  row_new : is_named p.key F ≡ false → is_named p.key G ≡ false → (row : Row)
      → row ≡ counted (new_row p.key) m → row ≡ rows_are p.key
  row_new a b row i = i ∙ ap (λ r. counted r m) (sym (told_new p.key F G a b)) ∙ sym (told_here w n)

  pub record RowsMet (old told : List Row) (row : Row) : Type 0 where
    pub before : List Key
    pub told_is : told ≡ old ++ map rows_are before
    pub row_is : row ≡ rows_are p.key
    pub rise : KeysRise (before ++ p.key ∷ [])
    pub named : (key : Key) → is_listed key (before ++ p.key ∷ [])
        ≡ (is_named key (F ++ option_list f) || is_named key (G ++ option_list g))

  module _ (old told told' : List Row) (row : Row) (ks : List Key) where
    pub rows_first : ks ≡ [] → told ≡ old ++ map rows_were ks → told' ≡ told ++ []
        → row ≡ counted (new_row p.key) m → AreNamed (ks ++ []) → RowsMet old told' row
    rows_first none is is' r named =
        let empty : (key : Key) → (is_named key F || is_named key G) ≡ false = λ key. sym
        (named key) ∙ ap (λ l. is_listed key (l ++ [])) none in
        let off = or_none (is_named p.key F) (is_named p.key G) (empty p.key) in
        record {
          before = [];
          told_is = is' ∙ append-nil told ∙ is ∙ ap (λ l. old ++ map rows_were l) none;
          row_is = row_new off.0 off.1 row r;
          rise = (tt, tt);
          named = λ key. or_nil (same_key key p.key) ∙ sym (named_step key p F G f g w.at
              w.at_others n ∙ ap (λ b. b || same_key key p.key) (empty key));
        }

    pub rows_same_key : (x : Key) → x ≡ p.key → told ≡ old ++ map rows_were ks → told' ≡ told ++ []
        → row ≡ counted (rows_were x) m → KeysRise (ks ++ x ∷ []) → AreNamed (ks ++ x ∷ []) → RowsMet old told' row
    rows_same_key x same is is' r rise named = record {
      before = ks;
      told_is = is' ∙ append-nil told ∙ is
          ∙ ap (λ l. old ++ l) (rows_stay ks (before_apart x ks rise (inr same)));
      row_is = r ∙ ap (λ z. counted (rows_were z) m) same ∙ sym (told_here w n);
      rise = rw (← same) rise;
      named = λ key.
          let now = rw same at (named key) in
          listed_more key p.key ks ∙ again (is_listed key ks) (same_key key p.key)
          ∙ ap (λ b. b || same_key key p.key) (sym (listed_more key p.key ks) ∙ now)
          ∙ sym (named_step key p F G f g w.at w.at_others n);
    }
      where
        again : (a b : Bool) → (a || b) ≡ ((a || b) || b)
        again true b = refl
        again false true = refl
        again false false = refl

    pub rows_next_key : (x : Key) → key_cmp x p.key ≡ Less → told ≡ old ++ map rows_were ks
        → told' ≡ told ++ rows_were x ∷ [] → row ≡ counted (new_row p.key) m
        → KeysRise (ks ++ x ∷ []) → AreNamed (ks ++ x ∷ []) → RowsMet old told' row
    rows_next_key x less is is' r rise named =
        let off = or_none (is_named p.key F) (is_named p.key G)
        (sym (named p.key) ∙ not_listed p.key x ks rise less) in record {
          before = ks ++ x ∷ [];
          told_is = is' ∙ ap (λ l. l ++ rows_were x ∷ []) is ∙ append_assoc old (map rows_were ks)
              (rows_were x ∷ []) ∙ ap (λ l. old ++ l) (sym (map-append rows_were ks (x ∷ [])) ∙
              rows_stay (ks ++ x ∷ []) (λ k l. elim (cases_Bool (same_key k p.key)) [
                | inr u ↦ u
                | inl u ↦ absurd (false≢true
                    (sym (not_listed p.key x ks rise less) ∙ (rw (key_same k p.key u) at l)))
              ]));
          row_is = row_new off.0 off.1 row r;
          rise = rise_more x p.key ks rise less;
          named = λ key. listed_more key p.key (ks ++ x ∷ []) ∙ ap (λ b. b || same_key key p.key)
              (named key) ∙ sym (named_step key p F G f g w.at w.at_others n);
        }

  -- by the address of the last meeting
  module _ (old told told' : List Row) (row' : Row) (ks : List Key) where
    pub rows_met : {row : Option Row} (last : Option Address) → (last ≡ None → ks ≡ []) →
        ((x : Address) → last ≡ Some x → address_cmp x p ≡ Less) → told ≡ old ++ map rows_were ks →
        row ≡ row_at F G last → (told' ≡ told ++ to_tell row p.key) ×
        (row' ≡ counted (row_for row p.key) m) → KeysRise (ks ++ keys_at last) → AreNamed
        (ks ++ keys_at last) → RowsMet old told' row'
    rows_met None first past is i o rise named = rows_first old told told' row' ks (first refl) is
        (o.0 ∙ ap (λ z. told ++ to_tell z p.key) i) (o.1 ∙ ap (λ z. counted (row_for z p.key) m) i)
        named
    rows_met (Some x) first past is i o rise named = elim (cases_Bool (same_key x.key p.key)) [
      | inl u ↦ rows_same_key old told told' row' ks x.key (key_same x.key p.key u) is (o.0 ∙
          ap (λ z. told ++ to_tell z p.key) i ∙ ap
          (λ b. told ++ cond b [] (rows_were x.key ∷ [])) u) (o.1 ∙ ap
          (λ z. counted (row_for z p.key) m) i ∙ ap
          (λ b. counted (cond b (rows_were x.key) (new_row p.key)) m) u) rise named
      | inr u ↦ rows_next_key old told told' row' ks x.key (key_of x p (past x refl) u) is (o.0
          ∙ ap (λ z. told ++ to_tell z p.key) i ∙ ap
          (λ b. told ++ cond b [] (rows_were x.key ∷ [])) u) (o.1 ∙ ap
          (λ z. counted (row_for z p.key) m) i ∙ ap
          (λ b. counted (cond b (rows_were x.key) (new_row p.key)) m) u) rise named
    ]
