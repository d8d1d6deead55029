-- The partition that information gives, from its four numbers (specs/Split).
use Rattle.std.proofs.lemmas.Grind.{common_steps}
use Rattle.std.proofs.Common.{rules}
use Rattle.std.proofs.Common.{◌≡◌, ℕ, ◌+◌, ◌-◌, ◌*◌, ◌/◌}
use Rattle.std.proofs.Common.{◌%◌, ◌^◌, ◌<◌, ◌≤◌, min, Bool, false, cond}
use Rattle.std.proofs.Common.{List, [], ◌∷◌, ◌++◌, length, get_or, take, replicate, Some}
use Rattle.std.proofs.Common.{None, refl, sym, ap, ◌∙◌, subst, inl, inr, arith}
use Rattle.std.proofs.Math.Nat.{div-add-mod', eq-zero-or-pos}
use Rattle.std.specs.Prelude.{slice_get, ◌==◌, ◌↔◌}
use Rattle.std.specs.Int.{div_ceil}
use Rattle.std.specs.declared.cmp.Ordering.TheVariants.{Less}
use Rattle.std.specs.List.{position_from}
use Rattle.std.proofs.lemmas.Bool.Decides.{nat_tests}
use Rattle.std.proofs.lemmas.Option.{slice_get_past}
use Rattle.std.proofs.lemmas.Bool.{cases_Bool}
use Rattle.std.proofs.lemmas.Nat.{mod_below, div_below, mul-le}
use Rattle.flute_parts.specs.declared.symbol_id.SymbolId.{SymbolId}
use Rattle.flute_parts.specs.Order.{same_symbol_id, symbol_id_cmp}
use Rattle.flute_parts.specs.Information.{Information, sizes, symbol_count, block_count}
use Rattle.flute_parts.specs.Information.{large_length, small_length, large_count, HasBlocks}
use Rattle.flute_parts.specs.Information.{IsValid}
use Rattle.flute_parts.specs.Partition.{symbol_id, ids, place}
use Rattle.flute_parts.specs.Split.{total, IsSplit}
use Rattle.flute_parts.proofs.Division.{div_ceil-pos, div_ceil-le}
use Rattle.flute_parts.proofs.Listing.{listing, place-hit, place-miss, listing-at}
use Rattle.flute_parts.proofs.Listing.{length-listing, length-split, size-large, size-small}
use Rattle.flute_parts.proofs.Listing.{before-large, before-small, total-split, listed-of_place}
use Rattle.flute_parts.proofs.Listing.{place-of_listed, ids-rise, next-in_block}

-- how the numbers are made

pub IsSplit-none : (i : Information) → i.transfer_length ≡ 0 → IsSplit i 0 0 0 0
unfolding sizes
IsSplit-none i h = search rules

larger : (q r : ℕ) → replicate r (q + min 1 r) ≡ replicate r (q + 1)
larger x0 x1 = search rules

counted : (q r d t : ℕ) → q * (r + d) + r ≡ t → t ≡ r * (q + 1) + d * q
counted q r d t e = omega arith

quotient_pos : (q r n t : ℕ) → q * n + r ≡ t → r < n → n ≤ t → 0 < q
quotient_pos x0 x1 x2 x3 x4 x5 x6 = search rules

pub IsSplit-of : (i : Information) (n : ℕ) → n ≡ block_count i → 0 < i.transfer_length → HasBlocks i
    → IsSplit i (symbol_count i) (symbol_count i % n) (n - symbol_count i % n) (symbol_count i / n)
unfolding sizes
IsSplit-of i n e l h =
    let t = symbol_count i in
    let q = t / n in
    let r = t % n in
    let t_pos : 0 < t = div_ceil-pos i.transfer_length i.symbol_length l in
    let n_pos : 0 < n = subst (λ x. 0 < x) (sym e) (div_ceil-pos t _ t_pos) in
    let n_le : n ≤ t = subst (λ x. x ≤ t) (sym e) (div_ceil-le t _ h.block) in
    let parts : q * n + r ≡ t = div-add-mod' t n in
    let r_lt : r < n = mod_below t n n_pos in
    let n_is : r + (n - r) ≡ n = omega arith in
    let long : q + min 1 r ≤ 65536 = rw e h.longest in
    let is_large : t - q * n ≡ r = omega arith in
    let not_zero : (i.transfer_length == 0) ≡ false = grind (arith, nat_tests) in
    record {
      split = ap (λ b. cond b [] (replicate (large_count i) (large_length i) ++ replicate
          (block_count i - large_count i) (small_length i))) not_zero ∙ ap
          (λ x. replicate (t - t / x * x) (div_ceil t x) ++ replicate (x - (t - t / x * x)) (t / x))
          (sym e) ∙ ap (λ x. replicate x (q + min 1 r) ++ replicate (n - x) q) is_large ∙ ap
          (λ xs. xs ++ replicate (n - r) q) (larger q r);
      count = refl;
      all = counted q r (n - r) t (ap (λ x. q * x + r) n_is ∙ parts);
      blocks = omega arith;
      longest = omega arith;
      large_longest = λ p. omega (arith, p);
      not_empty = λ p. quotient_pos q r n t parts r_lt n_le;
    }

inside : (xs : List ℕ) (n : ℕ) → 0 < get_or xs n 0 → n < length xs
inside x0 x1 x2 = grind (arith, common_steps)

-- what follows from the numbers of a partition

module _ (i : Information) (symbols large small length' : ℕ)
    (s : IsSplit i symbols large small length') where
  pub count-ids : length (ids i) ≡ symbols
  unfolding ids
  count-ids = search (rules, length-listing, sizes, total-split)

  -- no more than 2^16 blocks of 2^16 symbols
  pub few-symbols : symbols ≤ 2 ^ 32
  few-symbols =
      let blocks = s.blocks in
      elim (eq-zero-or-pos large) [
        | inl z ↦ search rules
        | inr p ↦ let q = mul-le _ (length' + 1) _ 65536 blocks (omega arith) in omega arith
      ]

  pub count-sizes : length (sizes i) ≡ large + small
  count-sizes = search (rules, length-split)

  pub before-first : (n : ℕ) → n ≤ large → total (take n (sizes i)) ≡ n * (length' + 1)
  before-first n h = search (rules, before-large)

  pub before-second : (n : ℕ) → large ≤ n → n ≤ large + small
      → total (take n (sizes i)) ≡ large * (length' + 1) + (n - large) * length'
  before-second n h l = ap (λ xs. total (take n xs)) s.split ∙ before-small _ _
      _ _ _ n (omega arith) (omega arith)

  -- the symbols before a block that is there
  pub before-block : (n j : ℕ) → j < get_or (sizes i) n 0
      → total (take n (sizes i)) ≡ n * length' + min n large
  before-block n j h =
      let count = count-sizes in
      let l = inside (sizes i) n (omega arith) in
      elim (eq-zero-or-pos (n - large)) [
        | inl z ↦ let b = before-first n (omega arith) in omega arith
        | inr p ↦ let b = before-second n (omega arith) (omega arith) in
            let m : (large + (n - large)) * length' ≡ n * length' = ap (λ x. x * length')
            (omega arith) in omega arith
      ]

  -- an id at its place
  pub at-first : (n j k : ℕ) → n < large → j < length' + 1 → n * (length' + 1) + j ≡ k
      → slice_get (ids i) k ≡ Some (symbol_id n j)
  unfolding ids
  at-first n j k h l e =
      let count = count-sizes in
      let size = ap (λ xs. get_or xs n 0) s.split ∙ size-large _ _ _ _ n h in
      let b = before-first n (omega arith) in
      listing-at (sizes i) 0 n j (omega arith) (omega arith) (omega arith) (omega arith)

  pub at-second : (n j k : ℕ) → large ≤ n → n < large + small → j < length' → large * (length' + 1)
      + ((n - large) * length' + j) ≡ k → slice_get (ids i) k ≡ Some (symbol_id n j)
  unfolding ids
  at-second n j k h m l e =
      let count = count-sizes in
      let size = ap (λ xs. get_or xs n 0) s.split ∙ size-small _ _ _ _ n h m in
      let b = before-second n h (omega arith) in
      listing-at (sizes i) 0 n j (omega arith) (omega arith) (omega arith) (omega arith)

  -- the id at each place
  pub place-first : (k : ℕ) → k < large * (length' + 1)
      → slice_get (ids i) k ≡ Some (symbol_id (k / (length' + 1)) (k % (length' + 1)))
  place-first k h = at-first _ _ k (div_below k _ _ (omega arith) h) (mod_below k _ (omega arith))
      (div-add-mod' k _)

  pub place-second : (k : ℕ) → large * (length' + 1) ≤ k → k < symbols
      → slice_get (ids i) k
      ≡ Some (symbol_id (large + (k - large * (length' + 1)) / length')
      ((k - large * (length' + 1)) % length'))
  place-second k h l =
      let rest = k - large * (length' + 1) in
      let below : rest < small * length' = omega arith in
      let some : 0 < small = search rules in
      let pos = s.not_empty some in
      let q = rest / length' in
      let r = rest % length' in
      let q_lt = div_below _ _ _ pos below in
      let parts = div-add-mod' _ _ in
      let shift : large + q - large ≡ q = omega arith in
      at-second _ r k (omega arith) (omega arith) (mod_below _ _ pos)
      (ap (λ x. large * (length' + 1) + (x * length' + r)) shift
      ∙ ap (λ x. large * (length' + 1) + x) parts ∙ omega arith)

  pub past-last : (k : ℕ) → symbols ≤ k → slice_get (ids i) k ≡ None
  past-last k h = search (rules, slice_get_past, count-ids)

-- a symbol of a block is after the blocks before its own, and any other has no place

pub place-in : (i : Information) (id : SymbolId) (k : ℕ) → id.esi < get_or (sizes i) id.sbn 0
    → total (take id.sbn (sizes i)) + id.esi ≡ k → place i id ≡ Some k
unfolding place ids
place-in i id k h e = place-hit _ 0 _ id.esi 0 (inside _ id.sbn (omega arith))
    h (omega arith) ∙ ap Some (omega arith)

pub place-out : (i : Information) (id : SymbolId) → get_or (sizes i) id.sbn 0 ≤ id.esi
    → place i id ≡ None
unfolding place ids
place-out i id h = search (rules, place-miss, sizes)

position-within : (p : SymbolId → Bool) (xs : List SymbolId) (k r : ℕ)
    → position_from p k xs ≡ Some r → r < k + length xs
position-within p [] k r e = cc
position-within p (x ∷ xs) k r e = elim (cases_Bool (p x)) [
  | inl t ↦ search rules
  | inr t ↦ let f : position_from p (k + 1) xs ≡ Some r = search rules in omega
      (arith, position-within p xs (k + 1) r f)
]

pub place-within : (i : Information) (id : SymbolId) (k : ℕ) → place i id ≡ Some k
    → k < length (ids i)
unfolding place
place-within i id k e = omega (arith, position-within (same_symbol_id id) (ids i) 0 k e)

-- the order of the ids

pub places-inverse : (info : Information) (id : SymbolId) (k : ℕ)
    → (place info id ≡ Some k) ↔ (slice_get (ids info) k ≡ Some id)
unfolding place ids
places-inverse info id k = (
  λ e. sub-zero_at k (listed-of_place id _ 0 k e).1,
  λ e. place-of_listed (sizes _) k id e,
)
  where
    sub-zero_at : (k : ℕ) → slice_get (listing 0 (sizes info)) (k - 0) ≡ Some id
        → slice_get (listing 0 (sizes info)) k ≡ Some id
    sub-zero_at k h = let e : k ≡ k - 0 =
        omega arith in ap (slice_get (listing 0 (sizes _))) e ∙ h

pub ids_rise : (info : Information) (j k : ℕ) (a b : SymbolId) → j < k → slice_get (ids info) j ≡
    Some a → slice_get (ids info) k ≡ Some b → symbol_id_cmp a b ≡ Less
unfolding ids
ids_rise info = ids-rise (sizes _)

pub ids_follow : (info : Information) (k : ℕ) (id : SymbolId)
    → slice_get (ids info) k ≡ Some id → id.esi + 1 < get_or (sizes info) id.sbn 0
    → slice_get (ids info) (k + 1) ≡ Some (symbol_id id.sbn (id.esi + 1))
unfolding ids
ids_follow info = next-in_block _

pub ids_counted : (info : Information) → IsValid info → length (ids info) ≡ symbol_count info
ids_counted info v = elim (eq-zero-or-pos info.transfer_length) [
  | inl z ↦ let s = IsSplit-none _ z in count-ids _ 0 0 0 0 s ∙ s.count
  | inr l ↦ let s = IsSplit-of _ _ refl l (v.parts l) in count-ids _ _ _ _ _ s
]
