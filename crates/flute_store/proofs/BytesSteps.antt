-- The bytes that a walk gives are those of the object (specs/BytesLeft, specs/Extract).
use Rattle.flute_store.proofs.Maps.{Entry}
use Rattle.std.proofs.Common.{rules}
use Rattle.std.proofs.Common.{◌≡◌, ℕ, zero, suc, ◌+◌, ◌-◌, List, [], ◌∷◌, ◌++◌, length, take}
use Rattle.std.proofs.Common.{Option, Some, None, refl, sym, ap, ◌∙◌, arith, append_assoc}
use Rattle.flute_store.proofs.Lookups.{Above, above-before, blocks_from-all, blocks_from-next}
use Rattle.flute_store.proofs.Lookups.{blocks_from-end, value-past, value-here}
use Rattle.std.{specs.Io.KnownBytes.{Appends}, proofs.KnownBytes.{Appends-trans}}
use Rattle.std.{specs.Prelude.{MatchOption}, specs.Borrow.{Bor}}
use Rattle.flute_join.proofs.Public.{not_cons_nil}
use Rattle.flute_parts.specs.{Devices.{AppendsPart}, SymbolBytes.{HasSymbolSize}}
use Rattle.flute_parts.proofs.Public.{AppendsPart-first, AppendsPart-second}
use Rattle.flute_store.proofs.Runs.{runs-listed}
use Rattle.flute_store.proofs.ToldObjects.{ToldGaps, wants-told}
use Rattle.flute_store.proofs.{WholeObjects.{gapless-whole}, ObjectLength.{object-length}}
use Rattle.flute_store.proofs.Upcoming.{here, AtHere, AtPassed, Tells, told, others_left}
use Rattle.flute_store.proofs.Upcoming.{symbols-first, symbols-end, others-above, inside-less}
use Rattle.flute_store.proofs.Upcoming.{block-left, taken-left}
use Rattle.flute_join.specs.declared.cell.Cell.TheVariants.{Conflict}
use Rattle.flute_store.specs.{BytesLeft.{GivesBytes}, Wanted.{want_cell}}
use Rattle.flute_store.proofs.Common
use Common.{Cell, One, Information, IsValid, ids, symbol_id, Key}
use Common.{SymbolId, Fact, Reason, Gap, Object, End, BlockEnd, Wanted, HeldScan}
use Common.{Turn, Whole, object, value_bytes, runs, gaps, symbol_fact, IsTold, wanted}
use Common.{Walk, at_start, left, all_left, gaps_left, IsWalk, after_pass}
use Common.{after_take, after_begin, upcoming_of, Keeps, walk_in, bound, IsHeldScan, Turns}
use Common.{cell_bytes, found_bytes, held_bytes, bytes_left, KeepsBytes, IsNotWhole}
use Common.{WritesWhole, WritesPart, info_address, Info, fact_at}

-- this turn gives no bytes
abbrev pub GivesNone : Option Turn → Type 0
GivesNone None = ⊥
GivesNone (Some Turn.Fitting) = ⊥
GivesNone (Some Turn.Passed) = ⊥
GivesNone turn = Unit {0}

-- the bytes of held symbols, at and past the first of them
bytes-past : (e : Entry) (es : List Entry) (xs : List SymbolId) → Above e.0 xs
    → held_bytes (e ∷ es) xs ≡ held_bytes es xs
unfolding held_bytes
bytes-past e es [] a = refl
bytes-past e es (x ∷ xs) a =
    (λ i. found_bytes (value-past e es x a.0 i) ++ bytes-past e es xs a.1 i)

bytes-here : (e : Entry) (es : List Entry) (q : SymbolId) (xs : List SymbolId) → e.0 ≡ q
    → Above q xs → held_bytes (e ∷ es) (q ∷ xs) ≡ cell_bytes e.1 ++ held_bytes es xs
unfolding held_bytes
bytes-here = search (rules, value-here, bytes-past)

-- passing a symbol and beginning a block leave the same bytes; taking a symbol gives its own
pass-bytes : (w : Walk) → IsWalk w → AtPassed w → bytes_left (after_pass w) ≡ bytes_left w
unfolding bytes_left
pass-bytes w p t =
    let l = inside-less w p t.inside in
    rw (
      t.held,
      symbols-first w l,
      bytes-past t.first _ (here w ∷ others_left w)
          (t.before, above-before _ (here w) _ t.before (others-above w p l)),
    )

begin-bytes : (w : Walk) → IsWalk w → Tells w BlockEnd → bytes_left (after_begin w) ≡ bytes_left w
unfolding bytes_left
begin-bytes = search (rules, blocks_from-next, block-left)

take-bytes : (w : Walk) → IsWalk w → (t : AtHere w None)
    → bytes_left w ≡ cell_bytes t.first.1 ++ bytes_left (after_take w)
unfolding bytes_left
take-bytes = search (rules, inside-less, bytes-here, others-above, symbols-first)

end-bytes : (w : Walk) → Tells w End → bytes_left w ≡ []
unfolding bytes_left held_bytes
end-bytes = search (rules, symbols-end, blocks_from-end)

-- where nothing is wanted, no gap is given, and no wanted symbol passed
no-gap : (v : Walk) (g : Gap) (gs : List Gap) → all_left v ≡ [] → gaps_left v ≡ g ∷ gs → ⊥
unfolding runs
no-gap = search rules

no-rest : (a b : List (SymbolId × Reason)) → a ++ b ≡ [] → b ≡ []
no-rest [] b h = h
no-rest (x ∷ a) b h = absurd (not_cons_nil x _ h)

no-wanted : (v : Walk) (r : Reason) → IsWalk v → all_left v ≡ [] → upcoming_of v ≡ Wanted r → ⊥
no-wanted v r p h e = not_cons_nil (here v, r) _
    (sym (taken-left None v _ p (told v _ e)) ∙ no-rest _ _ h)

-- what a turn gives if nothing is wanted
pub no-bytes : (v w : HeldScan) (t : Option Turn) → IsHeldScan v → all_left (walk_in v) ≡ []
    → Turns v t w → GivesNone t → bytes_left (walk_in v) ≡ []
no-bytes v w (Some (Turn.Gap g)) p h s n = search (rules, no-gap)
no-bytes v w (Some Turn.Wanted) p h s n = search (rules, no-wanted)
no-bytes v w (Some Turn.End) p h s n = end-bytes _ (told (walk_in v) End s.turns.1)
no-bytes v w t p h s n = absurd n

same-bytes : (v w : HeldScan) → Keeps (walk_in v) (walk_in w) → IsHeldScan w → bound w ≡ bound v
    → w.ticks ≡ v.ticks + 1 → all_left (walk_in v) ≡ []
    → bytes_left (walk_in w) ≡ bytes_left (walk_in v) → KeepsBytes v w
same-bytes = search rules

pub pass-keeps : (v w : HeldScan) → IsHeldScan v → all_left (walk_in v) ≡ []
    → Turns v (Some Turn.Passed) w → KeepsBytes v w
pass-keeps v w p h s = same-bytes v w s.turns.0 s.walk s.bound_is s.ticks h
    (ap bytes_left s.turns.2 ∙ pass-bytes _ p.walk (told _ _ s.turns.1))

pub begin-keeps : (v w : HeldScan) → IsHeldScan v → all_left (walk_in v) ≡ [] → Turns v None w
    → KeepsBytes v w
begin-keeps v w p h s = same-bytes v w s.turns.0 s.walk s.bound_is s.ticks h
    (ap bytes_left s.turns.2 ∙ begin-bytes _ p.walk (told _ _ s.turns.1))

pub keeps-on : (u v w : HeldScan) → KeepsBytes u v → KeepsBytes v w → KeepsBytes u w
keeps-on = search rules

-- a fitting symbol has one value, which is given
pub gives-first : (u v w : HeldScan) {e : Entry} {es : List Entry} (value : Option (Bor (List ℕ))) →
    KeepsBytes u v → v.held ≡ e ∷ es → Turns v (Some Turn.Fitting) w → MatchOption value
    (e.1 ≡ Conflict) (λ bytes. (e.1 ≡ One bytes.now) × HasSymbolSize bytes.now) → GivesBytes u value
    w
gives-first u v w {e} {es} None k h s m =
    let t = told (walk_in v) _ s.turns.1 in
    let f : t.first ≡ e =
    let held = sym t.held ∙ h in
    cc in
    let at = here (walk_in v) in
    let why = ap (λ x. want_cell v.walk.partition at (Some x.1)) f ∙ ap
    (λ c. want_cell v.walk.partition at (Some c)) m in absurd cc
gives-first u v w {e} {es} (Some bytes) k h s m =
    let t = told (walk_in v) _ s.turns.1 in
    let f : t.first ≡ e = cc in
    record {
      walk = s.walk;
      whole = s.turns.0.left_is ∙ k.whole;
      first = sym k.bytes ∙ take-bytes (walk_in v) k.walk.walk t ∙
          (λ i. cell_bytes (f i).1 ++ bytes_left (sym s.turns.2 i)) ∙ ap
          (λ c. cell_bytes c ++ bytes_left (walk_in w)) m.0;
      bound_is = s.bound_is ∙ k.bound_is;
      ticked = omega arith;
    }

-- ---- writing the symbols that are held

pub take-both : (n : ℕ) (a b : List ℕ)
    → take n (a ++ b) ≡ take n a ++ take (n - length (take n a)) b
take-both zero [] b = refl
take-both zero (x ∷ a) b = refl
take-both (suc n) [] b = let e : suc n ≡ suc n - 0 = omega arith in ap (λ k. take k b) e
take-both (suc n) (x ∷ a) b = search (rules, take-both n a b)

pub found-of : (key : Key) (id : SymbolId) (found : Option (Cell (List ℕ)))
    → value_bytes (symbol_fact key id found) ≡ found_bytes found
found-of = search rules

-- the bytes of an object are those of its held symbols
pub object-told : {n : ℕ} (F : List Fact) (key : Key) (x : Object n) (info : Information) → IsTold F
    key x → object F key info ≡ take info.transfer_length (held_bytes x.symbols (ids info))
unfolding object held_bytes
object-told = search rules

pub no-want : (ws : List (SymbolId × Reason)) → runs ws ≡ [] → ws ≡ []
no-want ws e = rw (← runs-listed ws, e)

-- so far a prefix was written, and the rest is left
pub record IsWriting (old now : Option (List ℕ)) (all rest : List ℕ) : Type 0 where
  pub part : List ℕ
  pub appended : Appends old now part
  pub whole : all ≡ part ++ rest

-- of what is left, x comes first and then more; b are the first bytes of x, at most n
pub record Cuts (left x more : List ℕ) (n : ℕ) (b : List ℕ) : Type 0 where
  pub left_is : left ≡ x ++ more
  pub bytes_are : b ≡ take n x

-- what comes after the first bytes that are written
cut-left : (w : List ℕ) {all left x more b : List ℕ} {n : ℕ} → all ≡ w ++ take n left
    → Cuts left x more n b → all ≡ (w ++ b) ++ take (n - length b) more
cut-left w {all} {left} {x} {more} {b} {n} h c = rw
    (h, c.left_is, take-both n x more, ← c.bytes_are, ← append_assoc w b _)

-- the first bytes of what is left are written
pub writing-more : {old now new : Option (List ℕ)} {all left x more b : List ℕ} {n : ℕ}
    → IsWriting old now all (take n left) → Cuts left x more n b → Appends now new b
    → IsWriting old new all (take (n - length b) more)
writing-more {old} {now} {new} {all} {left} {x} {more} {b} w c a = record {
  part = w.part ++ b;
  appended = Appends-trans _ _ _ _ b w.appended a;
  whole = cut-left _ w.whole c;
}

-- or a part of them was written, and the sink failed
pub writing-fails : {old now : Option (List ℕ)} (new : Option (List ℕ)) {all left x more b : List ℕ}
    {n : ℕ} → IsWriting old now all (take n left) → Cuts left x more n b → AppendsPart now new b
    → AppendsPart old new all
writing-fails {old} {now} new {all} {left} {x} {more} {b} {n} w c a = rw (cut-left w.part w.whole c)
    (AppendsPart-first _ new _ _ (AppendsPart-second _ now _ _ b w.appended a))

-- ---- the whole object, from its held symbols

pub left-start : (info : Information) (held : List Entry)
    → all_left (at_start info held) ≡ wanted info held (ids info)
unfolding left
left-start info held = rw (blocks_from-all info)

pub bytes-start : (info : Information) (held : List Entry)
    → bytes_left (at_start info held) ≡ held_bytes held (ids info)
unfolding bytes_left
bytes-start info held = rw (blocks_from-all info)

pub none-wanted : (info : Information) {s held again : List Entry} {gs : List Gap}
    → gs ≡ runs (wanted info held (ids info)) → gs ≡ [] → held ≡ s → again ≡ s
    → wanted info again (ids info) ≡ []
none-wanted = search (rules, no-want)

module _ {n : ℕ} {F : List Fact} {key : Key} {x : Object n} {info : Information} {held : List Entry}
    {gs : List Gap} (t : ToldGaps F key x info held gs) where
  information : fact_at F (info_address key) ≡ Some (Info key info)
  information = search rules

  are_gaps : gaps F key info ≡ gs
  are_gaps = rw (
    wants-told F key x info t.told ∙ ap (λ (s : List Entry). wanted info s (ids info))
        (sym t.held_is),
    ← t.gaps_are,
  )

  -- an object with a gap is not whole, and one without is
  pub not-whole : (gap : Gap) (others : List Gap) → gs ≡ gap ∷ others
      → IsNotWhole F key (symbol_id gap.sbn gap.first)
  not-whole = search (rules, information, are_gaps)

  pub whole-object : gs ≡ [] → Whole F key info
  whole-object f = gapless-whole F _ _ information (are_gaps ∙ f)

  -- the bytes that a walk from the start gives are those of the object
  told-bytes : {walk : Walk} {length : ℕ} (again : List Entry) → again ≡ x.symbols → walk ≡ at_start
      info again → length ≡ info.transfer_length → take length (bytes_left walk) ≡ object F key info
  told-bytes {walk} {length} again a start l = rw
      (l, ap bytes_left start ∙ bytes-start info _, a, ← object-told F _ x info t.told)

  -- what is written by it: the whole object, or a prefix of it
  module _ {W : Type 0} {written : W → Option (List ℕ)} {old new : W} {walk : Walk}
      {length : ℕ} (again : List Entry) (f : gs ≡ []) (a : again ≡ x.symbols)
      (start : walk ≡ at_start info again) (l : length ≡ info.transfer_length) where
    pub writes-whole : Appends (written old) (written new) (take length (bytes_left walk))
        → IsValid info → WritesWhole written F key old new length
    writes-whole w v = record {
      info = info;
      whole = whole-object f;
      bytes = rw (← (told-bytes again a start l)) w;
      length_is = l;
      exact = object-length F _ _ v (whole-object f) ∙ sym l;
    }

    pub writes-part : AppendsPart (written old) (written new) (take length (bytes_left walk))
        → WritesPart written F key old new
    writes-part = search (rules, whole-object, told-bytes)
