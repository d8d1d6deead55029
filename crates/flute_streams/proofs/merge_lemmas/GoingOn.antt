-- Advancing the streams that hold the lowest address, one after another (specs/Advances).
use Rattle.std.proofs.Common.{rules}
use Rattle.flute_streams.proofs.Common.{◌≡◌, ℕ, suc, ◌+◌, ◌<◌, ◌≤◌, List, []}
use Rattle.flute_streams.proofs.Common.{◌∷◌, ◌++◌, length, take, drop, get_or, Option}
use Rattle.flute_streams.proofs.Common.{Some, Ok, Err, refl, sym, ap, ◌∙◌, subst, inl, inr}
use Rattle.flute_streams.proofs.Common.{arith, drop-cons, add-one, zero, set, take_more}
use Rattle.flute_streams.proofs.Common.{take_more_set, drop-set-lt, take_all, length-drop}
use Rattle.flute_streams.proofs.Common.{take-append-drop, length-take-le}
use Rattle.flute_streams.proofs.Common.{slice_get_within, get_or_from_slice_get, ◌≢◌}
use Rattle.flute_streams.proofs.Common.{slice_get, Address, LoadFault, Behaviour, StopsAt, Advances}
use Rattle.flute_streams.proofs.Common.{address_of, GoesOnAt, GoOnAt, StopAt}
use Rattle.std.proofs.lemmas.Option.{slice_get_read}

-- there is an element at each number below the length
pub item_at : {X : Type 0} (xs : List X) (k : ℕ) → k < length xs
    → (x : X) × (slice_get xs k ≡ Some x)
item_at [] k h = absurd (omega arith)
item_at (x ∷ xs) zero h = (x, refl)
item_at (x ∷ xs) (suc k) h = item_at xs k (omega arith)

module _ {S : Type 0} (b : Behaviour S) (place : Option Address) where
  -- the first k that held that address were advanced, and all others are unchanged
  pub record WentSoFar (k : ℕ) (old now : List S) : Type 0 where
    pub done : GoOnAt b place (take k old) (take k now)
    pub rest : drop k now ≡ drop k old

  -- no stream from number k on, before number n, holds that address
  abbrev pub NoneAt : ℕ → ℕ → List S → Type 0
  NoneAt k n streams = (j : ℕ) (s : S) → k ≤ j → j < n → slice_get streams j ≡ Some s → address_of
      (b.held s) ≢ place

  pub none_went : (old : List S) → WentSoFar 0 old old
  none_went = search rules

  go_on_more : (xs ys : List S) (x y : S) → GoOnAt b place xs ys → GoesOnAt b place x y
      → GoOnAt b place (xs ++ x ∷ []) (ys ++ y ∷ [])
  go_on_more [] [] x y h g = (g, tt)
  go_on_more (w ∷ xs) (z ∷ ys) x y h g = (h.0, go_on_more xs ys x y h.1 g)
  go_on_more xs ys x y h g = absurd h

  same_head : (xs ys : List S) (x y : S) → x ∷ xs ≡ y ∷ ys → (x ≡ y) × (xs ≡ ys)
  same_head xs ys x y e = (cc, cc)

  shorter : (k : ℕ) (old now : List S) → drop k now ≡ drop k old → k < length now → k < length old
  shorter k old now e h = let l =
      ap length e in omega (arith, length-drop k now, length-drop k old)

  -- a stream that was not reached is unchanged, and so are all after it
  as_it_was : (k : ℕ) (old now : List S) (x : S) → drop k now ≡ drop k old → slice_get now k ≡ Some
      x → (get_or old k x ≡ x) × (drop (k + 1) now ≡ drop (k + 1) old)
  as_it_was k old now x e is =
      let h = slice_get_within _ k x is in
      let a = drop-cons _ k x h in
      let c = drop-cons _ k x (shorter k _ _ e h) in
      let r = same_head _ _ _ _ (sym a ∙ e ∙ c) in
      (sym r.0 ∙ get_or_from_slice_get _ k x x is, rw add-one r.1)

  old_more : (k : ℕ) (old now : List S) (x : S) → drop k now ≡ drop k old
      → slice_get now k ≡ Some x → take (k + 1) old ≡ take k old ++ x ∷ []
  old_more k old now x e is = cc (
    take_more old k x (shorter k _ _ e (slice_get_within _ k x is)),
    (as_it_was k _ _ x e is).0,
  )

  -- a stream that was not reached is the same
  pub not_reached : {k : ℕ} {old now : List S} → WentSoFar k old now → k < length now
      → slice_get now k ≡ slice_get old k
  not_reached {k} {now} w within =
      let x = item_at _ k within in
      x.1 ∙ sym (slice_get_read _ _ k _ refl (shorter k _ now w.rest within)
      (sym (as_it_was k _ now _ w.rest x.1).0))

  -- stream k holds another address: it stays
  pub one_stays : {k : ℕ} {old now : List S} {x : S} → WentSoFar k old now → slice_get now k ≡ Some
      x → address_of (b.held x) ≢ place → WentSoFar (k + 1) old now
  one_stays {k} {old} {now} {x} w is n = record {
    done = rw (old_more k old now x w.rest is) (subst
        (λ l. GoOnAt b place (take k old ++ x ∷ []) l) (sym (take_more now k x
        (slice_get_within now k x is) ∙ ap (λ y. take k now ++ y ∷ [])
        (get_or_from_slice_get now k x x is)))
        (go_on_more (take k old) (take k now) x x w.done (inr (n, refl))));
    rest = (as_it_was k old now x w.rest is).1;
  }

  -- none of those up to m stands there
  pub more_stay : (n : ℕ) {k m : ℕ} {old now : List S} → m ≡ k + n → m ≤ length now
      → NoneAt k m now → WentSoFar k old now → WentSoFar m old now
  more_stay zero {k} {m} {old} {now} e within apart w =
      let same : k ≡ m = omega arith in
      rw (← same) w
  more_stay (suc n) {k} {m} {old} {now} e within apart w =
      let j = k + n in
      let l : j < m = omega arith in
      let x = item_at now j (omega arith) in
      let before = more_stay n refl (omega arith) (λ i s p q g. apart i s p (omega arith) g) w in
      let same : j + 1 ≡ m = omega arith in
      rw (← same) (one_stays before x.1 (apart j _ (omega arith) l x.1))

  -- stream k holds that address, and is advanced
  pub one_goes : {k : ℕ} {old now new : List S} → WentSoFar k old now
      → (a : Advances b k now new (Ok tt)) → address_of (b.held a.before) ≡ place
      → WentSoFar (k + 1) old new
  one_goes {k} {old} {now} w a p =
      let x = a.before in
      let h = slice_get_within _ k x a.was in
      rw a.now (record {
        done = rw (old_more k _ _ x w.rest a.was)
            (rw (take_more_set _ k _ h) (go_on_more _ _ x _ w.done (inl (p, a.goes_on))));
        rest = drop-set-lt _ _ k _ (omega arith) ∙ (as_it_was k _ _ x w.rest a.was).1;
      })

  stop_at : (xs ys zs : List S) (x : S) {y : S} {f : LoadFault} → GoOnAt b place xs ys
      → address_of (b.held x) ≡ place → StopsAt b x y f
      → StopAt b place (length xs) f ((xs ++ x ∷ []) ++ zs) ((ys ++ y ∷ []) ++ zs)
  stop_at [] [] zs x h p s = (p, s, refl)
  stop_at (w ∷ xs) (z ∷ ys) zs x h p s = (h.0, stop_at xs ys zs x h.1 p s)
  stop_at xs ys zs x h p s = absurd h

  -- stream k holds that address, and stops at a fault
  pub one_stops : {k : ℕ} {old now new : List S} {f : LoadFault} → WentSoFar k old now
      → (a : Advances b k now new (Err f)) → address_of (b.held a.before) ≡ place
      → StopAt b place k f old new
  one_stops {k} {old} {now} {new} {f} w a p =
      let x = a.before in
      let y = a.after in
      let h : k < length now = slice_get_within now k x a.was in
      let zs = drop (k + 1) old in
      let was : (take k old ++ x ∷ []) ++ zs ≡ old = ap (λ l. l ++ zs)
      (sym (old_more k old now x w.rest a.was)) ∙ take-append-drop (k + 1) old in
      let behind : drop (k + 1) (set now k y) ≡ zs = drop-set-lt (k + 1) now k y (omega arith) ∙
      (as_it_was k old now x w.rest a.was).1 in
      let is : (take k now ++ y ∷ []) ++ zs ≡ new = ap (λ l. l ++ zs)
      (sym (take_more_set now k y h)) ∙ ap (λ l. take (k + 1) (set now k y) ++ l) (sym behind) ∙
      take-append-drop (k + 1) (set now k y) ∙ sym a.now in
      let n : length (take k old) ≡ k = length-take-le k old
      (let q = shorter k old now w.rest h in omega arith) in subst (λ m. StopAt b place m f old new)
      n (subst (λ l. StopAt b place (length (take k old)) f l new) was (subst
      (λ l. StopAt b place (length (take k old)) f ((take k old ++ x ∷ []) ++ zs) l) is
      (stop_at (take k old) (take k now) zs x w.done p a.stops)))

  -- after the last stream all were advanced
  pub all_went : (k : ℕ) (old now : List S) → WentSoFar k old now → length now ≤ k
      → GoOnAt b place old now
  all_went k old now w h =
      let l = ap length w.rest in
      let short : length old ≤ k = omega (arith, length-drop k now, length-drop k old) in
      rw (← take_all k old short) (rw (← take_all k now h) w.done)

pub same_length : {S : Type 0} (b : Behaviour S) (k : ℕ) (old new : List S)
    → (a : Advances b k old new (Ok tt)) → length new ≡ length old
same_length = search rules

-- none was advanced, one stops, all were advanced
pub ruleset goings = (none_went, one_stops, all_went)
