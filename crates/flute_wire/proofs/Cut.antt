-- An object's bytes are those of its symbols, one after the other (specs/Carousel).
use Rattle.std.proofs.Common.{rules}
use Rattle.std.proofs.Common.{◌≡◌, ℕ, suc, ◌+◌, ◌-◌, ◌*◌, ◌<◌, ◌≤◌}
use Rattle.std.proofs.Common.{◌⊎◌, inl, inr, List, [], ◌∷◌, ◌++◌, length, take}
use Rattle.std.proofs.Common.{drop, map, true, Option, Some, refl, sym, ap, ◌∙◌, arith}
use Rattle.std.specs.Prelude.{slice_get, flat_map, Contains}
use Rattle.std.specs.List.{enumerate_from}
use Rattle.std.specs.Option.{option_map}
use Rattle.std.proofs.lemmas.Grind.{div_ceil_times}
use Rattle.std.proofs.lemmas.List.{drop-drop, take_all}
use Rattle.std.proofs.lemmas.List.Concat.{flat_map-cons}
use Rattle.std.proofs.lemmas.Option.{slice_get_within, slice_get-get_or, get_or_from_slice_get}
use Rattle.std.proofs.Math.Seq.{take-add}
use Rattle.std.proofs.Math.Nat.{mul-le-mul_right}
use Rattle.std.proofs.lemmas.Bool.{cases_lt}
use Rattle.flute_parts.specs.Information.{Information, symbol_count, IsValid}
use Rattle.flute_parts.specs.Partition.{ids, place, fits, last_length}
use Rattle.flute_parts.specs.declared.symbol_id.SymbolId.{SymbolId}
use Rattle.flute_parts.proofs.Public.{fits-means, ids_counted, places-inverse}
use Rattle.flute_wire.specs.Carousel.{piece, with_piece, symbols_of}
use Rattle.flute_wire.proofs.Pieces.{symbol_there, begins_within}
use Rattle.flute_wire.proofs.Faults.{length-piece}

-- the symbols are those of the partition
named : (i : Information) (content : List ℕ) (n : ℕ) (xs : List SymbolId)
    → map (λ s. s.0) (map (with_piece i content) (enumerate_from n xs)) ≡ xs
named i content n [] = refl
named i content n (x ∷ xs) = ap (λ ys. x ∷ ys) (named i content (n + 1) xs)

pub cut-ids : (i : Information) (content : List ℕ) → map (λ s. s.0) (symbols_of i content) ≡ ids i
unfolding symbols_of
cut-ids i content = named i content 0 (ids i)

-- their bytes follow one another
pieces_from : (i : Information) (content : List ℕ) (n : ℕ) (xs : List SymbolId)
    → flat_map (λ s. s.1) (map (with_piece i content) (enumerate_from n xs))
    ≡ take (length xs * i.symbol_length) (drop (n * i.symbol_length) content)
pieces_from i content n [] =
    let none : 0 * i.symbol_length ≡ 0 = omega arith in
    rw none refl
pieces_from i content n (x ∷ xs) =
    let e = i.symbol_length in
    let rest = pieces_from i content (n + 1) xs in
    let longer : suc (length xs) * e ≡ e + length xs * e = grind arith in
    let further : (n + 1) * e ≡ n * e + e = grind arith in
    flat_map-cons (λ s. s.1) (with_piece i content (n, x))
    (map (with_piece i content) (enumerate_from (n + 1) xs))
    ∙ ap (λ ys. piece i content n ++ ys)
    (rest ∙ ap (λ (m : ℕ). take (length xs * e) (drop m content)) further
    ∙ ap (take (length xs * e)) (sym (drop-drop e (n * e) content)))
    ∙ sym (take-add e (length xs * e) (drop (n * e) content))
    ∙ ap (λ (m : ℕ). take m (drop (n * e) content)) (sym longer)

enough : (i : Information) → IsValid i → i.transfer_length ≤ length (ids i) * i.symbol_length
enough i v = search (rules, div_ceil_times, ids_counted)

pub cut-joined : (i : Information) (content : List ℕ) → IsValid i → length content ≡
    i.transfer_length → flat_map (λ s. s.1) (symbols_of i content) ≡ content
unfolding symbols_of
cut-joined i content v whole =
    let none : 0 * i.symbol_length ≡ 0 = omega arith in
    pieces_from i content 0 (ids i)
    ∙ ap (λ (m : ℕ). take (length (ids i) * i.symbol_length) (drop m content)) none
    ∙ take_all (length (ids i) * i.symbol_length) content (omega (arith, whole, enough i v))

-- the place of a symbol of the list
record IsAt (i : Information) (content : List ℕ) (s : SymbolId × List ℕ) : Type 0 where
  place : ℕ
  id : slice_get (ids i) place ≡ Some s.0
  bytes : s.1 ≡ piece i content place

both : (i : Information) (content : List ℕ) (k : ℕ) (s : SymbolId × List ℕ)
    (o : Option SymbolId) → option_map (λ id. (id, piece i content k)) o ≡ Some s
    → (o ≡ Some s.0) × (s.1 ≡ piece i content k)
both x0 x1 x2 x3 x4 x5 = search rules

is_at : (i : Information) (content : List ℕ) (s : SymbolId × List ℕ)
    → Contains (symbols_of i content) s → IsAt i content s
is_at i content s h = search (rules, slice_get-get_or, symbol_there)

pub cut-one : (i : Information) (content : List ℕ) (s t : SymbolId × List ℕ) → Contains
    (symbols_of i content) s → Contains (symbols_of i content) t → s.0 ≡ t.0 → s ≡ t
cut-one i content s t a b same =
    let x = is_at i content s a in
    let y = is_at i content t b in
    let first : place i s.0 ≡ Some x.place = (places-inverse i s.0 x.place).1 x.id in
    let second : place i t.0 ≡ Some y.place = (places-inverse i t.0 y.place).1 y.id in
    let moved : place i s.0 ≡ Some y.place = ap (place i) same ∙ second in
    let one : x.place ≡ y.place = cc in
    let bytes : s.1 ≡ t.1 = search rules in
    ap (λ (id : SymbolId). let p : SymbolId × List ℕ = (id, s.1) in p) same
    ∙ ap (λ (bs : List ℕ). let p : SymbolId × List ℕ = (t.0, bs) in p) bytes

-- a piece that is short is the last
is_last : (k t e l : ℕ) → k < t → t * e < l + e → k * e < l → l - k * e < e → k + 1 ≡ t
is_last k t e l h b begins short = elim (cases_lt (k + 1) t) [
  | inl more ↦ let m : (k + 2) * e ≤ t * e = mul-le-mul_right e (omega arith) in
      let d : (k + 2) * e ≡ k * e + e + e = grind arith in
      absurd (omega (arith, m, d, b, short, begins))
  | inr none ↦ omega (arith, none, h)
]

fitting : (i : Information) (content : List ℕ) (s : SymbolId × List ℕ) (k : ℕ) → IsValid i → length
    content ≡ i.transfer_length → slice_get (ids i) k ≡ Some s.0 → s.1 ≡ piece i content k →
    (length s.1 ≡ i.symbol_length) ⊎
    ((slice_get (ids i) (length (ids i) - 1) ≡ Some s.0) × (length s.1 ≡ last_length i))
fitting i content s k v whole id bytes =
    let e = i.symbol_length in
    let l = i.transfer_length in
    let within = slice_get_within (ids i) k s.0 id in
    let begins = begins_within i k v within in
    let count = ids_counted i v in
    let len = ap length bytes ∙ length-piece i content k in
    elim (cases_lt (l - k * e) e) [
      | inl short ↦ let some : 0 < l = omega (arith, begins) in
          let few = (div_ceil_times l e (v.parts some).symbol).1 in
          let last : k + 1 ≡ symbol_count i = is_last k (symbol_count i) e l
          (omega (arith, within, count)) few begins short in
          let before : length (ids i) - 1 ≡ k = omega (arith, count, last) in
          let place : symbol_count i - 1 ≡ k = omega (arith, last) in
          let left : length s.1 ≡ l - k * e = omega (arith, len, short, whole) in
          inr (ap (slice_get (ids i)) before ∙ id, left ∙ ap (λ (m : ℕ). l - m * e) (sym place))
      | inr full ↦ inl (omega (arith, len, full, whole))
    ]

pub cut-fit : (i : Information) (content : List ℕ) (s : SymbolId × List ℕ) → IsValid i → length
    content ≡ i.transfer_length → Contains (symbols_of i content) s → fits i s.0 (length s.1) ≡ true
cut-fit i content s v whole h =
    let x = is_at i content s h in
    let there : Contains (ids i) s.0 = (
      x.place,
      slice_get_within (ids i) x.place s.0 x.id,
      get_or_from_slice_get (ids i) x.place s.0 s.0 x.id,
    ) in (fits-means i s.0 (length s.1) v).1
    (there, fitting i content s x.place v whole x.id x.bytes)
