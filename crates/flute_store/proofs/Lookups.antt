-- The symbols of a partition are in rising order, and what is wanted of them (specs/Objects).
use Rattle.flute_store.proofs.Maps.{Entry}
use Rattle.std.proofs.Common.{rules}
use Rattle.std.proofs.Common.{◌≡◌, ℕ, zero, suc, ◌+◌, ◌<◌, get_or, List, [], ◌∷◌, ◌++◌, length}
use Rattle.std.proofs.Common.{map, drop, refl, arith, Option, Some, None}
use Rattle.std.proofs.{Math.Nat.{sub-zero}, lemmas.List.{drop_more}, Math.Seq.{drop-length}}
use Rattle.flute_store.proofs.Common
use Common.{flat_map, range_with_len, enumerate_from, AllByRecursion, Less, nat_tests, Information}
use Common.{sizes, symbol_id_cmp, symbol_id, block_ids, ids, symbol_id_total, SymbolId, block_from}
use Common.{blocks_from, option_map, cons_option, keys_of}
use Common.{value_at, Reason, Missing, want_cell, with_reason, wanted}

-- each of the symbols is after p
abbrev pub Above : SymbolId → List SymbolId → Type 0
Above p xs = AllByRecursion (λ x. symbol_id_cmp p x ≡ Less) xs

-- each of the symbols is of a block after n
abbrev pub Later : ℕ → List SymbolId → Type 0
Later n xs = AllByRecursion (λ (x : SymbolId). n < x.sbn) xs

pub sbn-less : (a b : SymbolId) → a.sbn < b.sbn → symbol_id_cmp a b ≡ Less
sbn-less = grind (arith, nat_tests)

pub esi-less : (n a b : ℕ) → a < b → symbol_id_cmp (symbol_id n a) (symbol_id n b) ≡ Less
esi-less = grind (arith, nat_tests)

pub above-before : (p q : SymbolId) (xs : List SymbolId) → symbol_id_cmp p q ≡ Less → Above q xs
    → Above p xs
above-before p q [] l a = tt
above-before p q (x ∷ xs) l a = (symbol_id_total.trans p q x l a.0, above-before p q xs l a.1)

pub above-later : (p : SymbolId) (xs : List SymbolId) → Later p.sbn xs → Above p xs
above-later p [] l = tt
above-later p (x ∷ xs) l = (sbn-less p x l.0, above-later p xs l.1)

pub above-range : (n a b k : ℕ) (xs : List SymbolId) → a < b → Above (symbol_id n a) xs
    → Above (symbol_id n a) (map (symbol_id n) (range_with_len b k) ++ xs)
above-range n a b zero xs l s = s
above-range n a b (suc k) xs l s = (esi-less n a b l, above-range n a (b + 1) k _ (omega arith) s)

later-block : (n m a k : ℕ) (xs : List SymbolId) → n < m → Later n xs
    → Later n (map (symbol_id m) (range_with_len a k) ++ xs)
later-block n m a zero xs l s = s
later-block n m a (suc k) xs l s = (l, later-block n m (a + 1) k _ l s)

later-listing : (n m : ℕ) (sizes : List ℕ) → n < m
    → Later n (flat_map block_ids (enumerate_from m sizes))
later-listing n m [] l = tt
later-listing n m (s ∷ sizes) l = later-block n m 0 s _ l
    (later-listing n (m + 1) sizes (omega arith))

pub later-blocks : (info : Information) (n m : ℕ) → n < m → Later n (blocks_from info m)
unfolding blocks_from
later-blocks info n m l = later-listing n m (drop m _) l

pub block_from-end : (n s : ℕ) → block_from n s s ≡ []
block_from-end = search rules

pub above-block : (n a s : ℕ) (xs : List SymbolId) → Later n xs
    → Above (symbol_id n a) (block_from n (a + 1) s ++ xs)
above-block n a s xs l = above-range n a (a + 1) _ _ (omega arith) (above-later _ _ l)

-- the blocks from one on are that one and those after it
pub blocks_from-next : (info : Information) (n : ℕ) → n < length (sizes info)
    → blocks_from info n ≡ block_from n 0 (get_or (sizes info) n 0) ++ blocks_from info (n + 1)
unfolding blocks_from
blocks_from-next info n l = rw (drop_more _ n 0 l, sub-zero)

pub blocks_from-end : (info : Information) → blocks_from info (length (sizes info)) ≡ []
unfolding blocks_from
blocks_from-end info = rw (drop-length (sizes _))

pub blocks_from-all : (info : Information) → blocks_from info 0 ≡ ids info
unfolding blocks_from ids
blocks_from-all info = refl

-- ---- what is wanted, symbol by symbol

pub value-past : (e : Entry) (es : List Entry) (q : SymbolId) → symbol_id_cmp e.0 q ≡ Less
    → value_at symbol_id_cmp (e ∷ es) q ≡ value_at symbol_id_cmp es q
value-past = search rules

pub value-here : (e : Entry) (es : List Entry) (q : SymbolId) → e.0 ≡ q
    → value_at symbol_id_cmp (e ∷ es) q ≡ Some e.1
value-here = search rules

-- nothing is held of a symbol before all that are held
pub value-before : (es : List Entry) (q : SymbolId) → Above q (keys_of es)
    → value_at symbol_id_cmp es q ≡ None
value-before [] q a = refl
value-before (e ∷ es) q a = rw (a.0, value-before es q a.1)

-- a held symbol does not matter to those after it
pub wanted-past : (info : Information) (e : Entry) (es : List Entry) (xs : List SymbolId)
    → Above e.0 xs → wanted info (e ∷ es) xs ≡ wanted info es xs
unfolding wanted
wanted-past info e es [] a = refl
wanted-past info e es (x ∷ xs) a = rw (value-past e es x a.0, wanted-past info e es xs a.1)

-- a held symbol decides on itself
pub wanted-here : (info : Information) (e : Entry) (es : List Entry) (q : SymbolId)
    (xs : List SymbolId) → e.0 ≡ q → Above q xs → wanted info (e ∷ es) (q ∷ xs) ≡ cons_option
    (option_map (with_reason q) (want_cell info q (Some e.1))) (wanted info es xs)
unfolding wanted
wanted-here info e es q xs h a = search (rules, value-here, wanted-past)

-- symbols of which nothing is held are missing
pub wanted-missing : (info : Information) (held : List Entry) (n a k : ℕ) (xs : List SymbolId)
    → ((i : ℕ) → i < a + k → value_at symbol_id_cmp held (symbol_id n i) ≡ None)
    → wanted info held (map (symbol_id n) (range_with_len a k) ++ xs)
    ≡ map (λ i. (symbol_id n i, Missing)) (range_with_len a k) ++ wanted info held xs
unfolding wanted
wanted-missing info held n a zero xs h = refl
wanted-missing info held n a (suc k) xs h =
    rw (h a (omega arith), wanted-missing info _ n (a + 1) k _ (λ i l. h i (omega (arith, l))))

-- the first of the wanted symbols is another than p, or wanted for another reason
abbrev pub Elsewhere : SymbolId → Reason → List (SymbolId × Reason) → Type 0
Elsewhere p r [] = Unit {0}
Elsewhere p r (w ∷ ws) = w.0 ≡ p → w.1 ≡ r → ⊥

elsewhere-cons : (p x : SymbolId) (r : Reason) (o : Option Reason) (ws : List (SymbolId × Reason))
    → (x ≡ p → o ≡ Some r → ⊥) → Elsewhere p r ws
    → Elsewhere p r (cons_option (option_map (with_reason x) o) ws)
elsewhere-cons = search rules

not_itself : (p x : SymbolId) → symbol_id_cmp p x ≡ Less → x ≡ p → ⊥
not_itself = search rules

pub elsewhere-above : (info : Information) (held : List Entry) (p : SymbolId) (r : Reason)
    (xs : List SymbolId) → Above p xs → Elsewhere p r (wanted info held xs)
unfolding wanted
elsewhere-above info held p r [] a = tt
elsewhere-above info held p r (x ∷ xs) a = elsewhere-cons p x r (want_cell _ x _)
    (wanted _ held _) (λ e f. not_itself p x a.0 e) (elsewhere-above info _ p r xs a.1)

pub elsewhere-here : (info : Information) (held : List Entry) (p : SymbolId) (r : Reason)
    (xs : List SymbolId) → (want_cell info p (value_at symbol_id_cmp held p) ≡ Some r → ⊥)
    → Above p xs → Elsewhere p r (wanted info held (p ∷ xs))
unfolding wanted
elsewhere-here info held p r xs h a = elsewhere-cons p p r _ _ (λ e f. h f)
    (elsewhere-above _ _ p r _ a)
