-- Bytes are the same if their pieces are.
use Rattle.std.proofs.Common.{rules}
use Rattle.flute_streams.proofs.Common.{List, [], ◌++◌, ◌∷◌, ◌≡◌, ℕ, Bool, bytes_eq, ◌&&◌, length}
use Rattle.flute_streams.proofs.Common.{refl, arith, ap, ◌∙◌, sym, ◌+◌, ◌<◌, take, take_more}
use Rattle.flute_streams.proofs.Common.{true, ◌-◌, ◌≤◌, append_assoc, take_all}
use Rattle.std.proofs.Common.{drop, length-append, length-drop, length-take, nat_eq}
use Rattle.std.proofs.Common.{slice_index_or}
use Rattle.std.proofs.lemmas.List.{drop-append-le, take-append-drop}
use Rattle.std.proofs.lemmas.Slice.Eq.{bytes_eq-Decides}
use Rattle.std.proofs.Math.Bool.{and_assoc, and-true}

pub same-append : (xs ys us vs : List ℕ) → length xs ≡ length ys
    → bytes_eq (xs ++ us) (ys ++ vs) ≡ (bytes_eq xs ys && bytes_eq us vs)
same-append [] [] us vs e = refl
same-append [] (y ∷ ys) us vs e = absurd (omega arith)
same-append (x ∷ xs) [] us vs e = absurd (omega arith)
same-append (x ∷ xs) (y ∷ ys) us vs e =
    ap (λ b. nat_eq x y && b) (same-append xs ys us vs (omega arith))
    ∙ sym (and_assoc (nat_eq x y) (bytes_eq xs ys) (bytes_eq us vs))

-- one byte more of each
pub same-more : (xs ys : List ℕ) (k : ℕ) {same : Bool} → k < length xs → k < length ys
    → same ≡ bytes_eq (take k xs) (take k ys)
    → (same && nat_eq (slice_index_or xs k 0) (slice_index_or ys k 0))
    ≡ bytes_eq (take (k + 1) xs) (take (k + 1) ys)
same-more xs ys k within other is =
    let x = slice_index_or xs k 0 in
    let y = slice_index_or ys k 0 in
    let long : length (take k xs) ≡ length (take k ys) = omega
    (arith, length-take k xs, length-take k ys) in ap (λ (b : Bool). b && nat_eq x y) is ∙ ap
    (λ (b : Bool). bytes_eq (take k xs) (take k ys) && b) (sym (and-true (nat_eq x y))) ∙ sym
    (same-append (take k xs) (take k ys) (x ∷ []) (y ∷ []) long) ∙ ap
    (λ l. bytes_eq l (take k ys ++ y ∷ [])) (sym (take_more xs k 0 within)) ∙ ap
    (bytes_eq (take (k + 1) xs)) (sym (take_more ys k 0 other))

-- the first bytes and the others
pub same-split : (xs ys : List ℕ) (n : ℕ) {a b c d : List ℕ} → length xs ≡ length ys
    → a ≡ take n xs → b ≡ take n ys → c ≡ drop n xs → d ≡ drop n ys
    → bytes_eq xs ys ≡ (bytes_eq a b && bytes_eq c d)
same-split xs ys n {a} {b} {c} e is_a is_b is_c is_d =
    let long : length (take n xs) ≡ length (take n ys) = omega
    (arith, length-take n xs, length-take n ys, e) in ap (λ l. bytes_eq l ys)
    (sym (take-append-drop n xs)) ∙ ap (bytes_eq (take n xs ++ drop n xs))
    (sym (take-append-drop n ys)) ∙ same-append (take n xs) (take n ys) (drop n xs) (drop n ys) long
    ∙ ap (λ l. bytes_eq l (take n ys) && bytes_eq (drop n xs) (drop n ys)) (sym is_a) ∙ ap
    (λ l. bytes_eq a l && bytes_eq (drop n xs) (drop n ys)) (sym is_b) ∙ ap
    (λ l. bytes_eq a b && bytes_eq l (drop n ys)) (sym is_c) ∙ ap
    (λ l. bytes_eq a b && bytes_eq c l) (sym is_d)

-- what follows the same bytes decides
pub record SameFront (xs ys us vs : List ℕ) : Type 0 where
  pub front : List ℕ
  pub first : xs ≡ front ++ us
  pub second : ys ≡ front ++ vs
  pub as_many : length us ≡ length vs

same-behind : (front us vs : List ℕ) → bytes_eq (front ++ us) (front ++ vs) ≡ bytes_eq us vs
same-behind = search (rules, same-append, bytes_eq-Decides)

module _ {xs ys us vs : List ℕ} (h : SameFront xs ys us vs) where
  pub same-left : bytes_eq xs ys ≡ bytes_eq us vs
  same-left = search (rules, same-behind)

  -- a piece more is the same
  pub same-on : {a b c d : List ℕ} (n : ℕ) → a ≡ take n us → b ≡ take n vs
      → c ≡ drop n us → d ≡ drop n vs → bytes_eq a b ≡ true → SameFront xs ys c d
  same-on {a} {b} {c} {d} n is_a is_b is_c is_d same =
      let e = (bytes_eq-Decides a b).0 same in
      let one : us ≡ a ++ c =
      sym (take-append-drop n us) ∙ ap (λ l. l ++ drop n us) (sym is_a)
      ∙ ap (λ l. a ++ l) (sym is_c) in
      let other : vs ≡ a ++ d =
      sym (take-append-drop n vs) ∙ ap (λ l. l ++ drop n vs) (sym is_b)
      ∙ ap (λ l. b ++ l) (sym is_d) ∙ ap (λ l. l ++ d) (sym e) in
      record {
        front = h.front ++ a;
        first = h.first ∙ ap (λ l. h.front ++ l) one ∙ sym (append_assoc h.front a c);
        second = h.second ∙ ap (λ l. h.front ++ l) other ∙ sym (append_assoc h.front a d);
        as_many =
            omega (
              arith,
              ap length is_c,
              ap length is_d,
              length-drop n us,
              length-drop n vs,
              h.as_many,
            );
      }

  -- the last bytes decide, if no fewer than are left
  pub same-last : (size : ℕ) → size ≤ length xs → length us ≤ size → let begin = length xs - size in
      bytes_eq (take (length xs - begin) (drop begin xs)) (take (length ys - begin) (drop begin ys))
      ≡ bytes_eq xs ys
  same-last size within few =
      let n = length xs - size in
      let long : n ≤ length h.front = omega
      (arith, within, few, ap length h.first, length-append h.front us) in ap
      (λ l. bytes_eq l (take (length ys - n) (drop n ys))) (take_all (length xs - n) (drop n xs)
      (omega (arith, length-drop n xs)) ∙ ap (drop n) h.first ∙ drop-append-le n h.front us long) ∙
      ap (bytes_eq (drop n h.front ++ us)) (take_all (length ys - n) (drop n ys)
      (omega (arith, length-drop n ys)) ∙ ap (drop n) h.second ∙ drop-append-le n h.front vs long) ∙
      same-behind (drop n h.front) us vs ∙ sym same-left
