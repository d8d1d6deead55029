-- The symbols of an object with their bytes, and the packets that carry them (specs/Carousel).
use Rattle.std.proofs.Common.{rules}
use Rattle.std.proofs.Common.{◌≡◌, ℕ, zero, suc, ◌+◌, ◌*◌, ◌<◌, ◌≤◌, max}
use Rattle.std.proofs.Common.{inl, inr, List, [], ◌∷◌, ◌++◌, length, take, map, Bool}
use Rattle.std.proofs.Common.{true, false, cond, Option, Some, None, refl, sym, ap, subst}
use Rattle.std.proofs.Common.{◌∙◌, arith}
use Rattle.std.specs.Prelude.{◌==◌, slice_get}
use Rattle.std.specs.List.{enumerate_from, AllZip}
use Rattle.std.specs.Option.{option_map}
use Rattle.std.proofs.lemmas.Grind.{div_ceil_times}
use Rattle.std.proofs.lemmas.Option.{slice_get-map, slice_get_within, slice_get_past}
use Rattle.std.proofs.lemmas.Bool.Decides.{nat_tests}
use Rattle.std.proofs.Math.Nat.{eq-zero-or-pos}
use Rattle.flute_parts.specs.Information.{Information, symbol_count, IsValid}
use Rattle.flute_parts.specs.Partition.{ids}
use Rattle.flute_parts.specs.declared.symbol_id.SymbolId.{SymbolId}
use Rattle.flute_parts.specs.declared.key.Key.{Key}
use Rattle.std.specs.Int.{div_ceil}
use Rattle.std.proofs.lemmas.List.{length-map}
use Rattle.std.proofs.lemmas.List.FromFn.{length-enumerate_from}
use Rattle.flute_parts.proofs.Public.{div_ceil-pos, div_ceil-zero, ids_counted}
use Rattle.std.specs.Prelude.{flat_map}
use Rattle.std.proofs.lemmas.List.Concat.{flat_map-cons}
use Rattle.flute_parts.specs.declared.fact.Fact.{Fact}
use Rattle.flute_wire.specs.Content.{Content}
use Rattle.flute_wire.specs.Reading.{facts}
use Rattle.flute_wire.proofs.Written.{facts_told}
use Rattle.flute_wire.specs.Writing.{packet_at, outgoing_facts, IsWritten}
use Rattle.flute_wire.specs.Carousel.{piece, with_piece, symbols_of, payloads_of, packets_of}
use Rattle.flute_wire.specs.Carousel.{facts_sent}

-- the element at a place, with the place
pub slice_get-enumerate_from : {X : Type 0} (n : ℕ) (xs : List X) (k : ℕ)
    → slice_get (enumerate_from n xs) k ≡ option_map (λ x. (n + k, x)) (slice_get xs k)
slice_get-enumerate_from n [] k = refl
slice_get-enumerate_from n (x ∷ xs) zero = ap (λ (m : ℕ). Some (m, x)) (omega arith)
slice_get-enumerate_from n (x ∷ xs) (suc k) =
    let e : n + 1 + k ≡ n + suc k = omega arith in
    slice_get-enumerate_from (n + 1) xs k
    ∙ ap (λ (m : ℕ). option_map (λ y. (m, y)) (slice_get xs k)) e

-- the symbol at a place has the piece at that place
pub symbol_there : (i : Information) (content : List ℕ) (k : ℕ) → slice_get (symbols_of i content) k
    ≡ option_map (λ id. (id, piece i content k)) (slice_get (ids i) k)
unfolding symbols_of
symbol_there i content k = search (rules, slice_get-map, slice_get-enumerate_from, piece)

pub none_there : (i p : Information) (content : List ℕ) (k : ℕ) → p ≡ i
    → None ≡ slice_get (ids p) k → None ≡ slice_get (symbols_of i content) k
none_there i p content k same h = search (rules, symbol_there, piece)

pub some_there : (i p : Information) (content : List ℕ) (k : ℕ) (id : SymbolId) → p ≡ i → Some id ≡
    slice_get (ids p) k → Some (id, piece i content k) ≡ slice_get (symbols_of i content) k
some_there i p content k id same h = search (rules, symbol_there, piece)

pub length-symbols_of : (i : Information) (content : List ℕ)
    → length (symbols_of i content) ≡ length (ids i)
unfolding symbols_of
length-symbols_of i content =
    length-map (enumerate_from 0 (ids i)) (with_piece i content) ∙ length-enumerate_from 0 (ids i)

below : (k t e l : ℕ) → k < t → t * e < l + e → k * e < l
below k t e l h b = search rules

-- where there is no byte there is no symbol, and else there is one
pub no_symbol : (i : Information) → IsValid i → i.transfer_length ≡ 0 → ids i ≡ []
no_symbol i v z =
    let none : length (ids i) ≡ 0 =
    ids_counted i v ∙ ap (λ (t : ℕ). div_ceil t i.symbol_length) z
    ∙ div_ceil-zero i.symbol_length in
    empty (ids i) none
  where
    empty : (xs : List SymbolId) → length xs ≡ 0 → xs ≡ []
    empty [] h = refl
    empty (x ∷ xs) h = absurd (omega (arith, h))

pub some_symbol : (i : Information) → IsValid i → 0 < i.transfer_length → 0 < length (ids i)
some_symbol i v h = omega (arith, ids_counted i v, div_ceil-pos i.transfer_length i.symbol_length h)

-- a place of the partition begins within the object
pub begins_within : (i : Information) (k : ℕ) → IsValid i → k < length (ids i)
    → k * i.symbol_length < i.transfer_length
begins_within i k v h = elim (eq-zero-or-pos i.transfer_length) [
  | inl z ↦ absurd (omega (arith, h, ap length (no_symbol i v z)))
  | inr l ↦ below k (symbol_count i) i.symbol_length i.transfer_length
      (omega (arith, h, ids_counted i v))
      (div_ceil_times i.transfer_length i.symbol_length (v.parts l).symbol).1
]

pub begins : (i p : Information) (k : ℕ) (id : SymbolId) → IsValid i → p ≡ i
    → Some id ≡ slice_get (ids p) k → k * i.symbol_length ≤ i.transfer_length
begins i p k id v same h = search (rules, begins_within, slice_get_within)

-- how many packets there are, and which has which number
empty_is : (i : Information) → i.transfer_length ≡ 0 → (i.transfer_length == 0) ≡ true
empty_is i z = grind (arith, nat_tests)

not_empty : (i : Information) → 0 < i.transfer_length → (i.transfer_length == 0) ≡ false
not_empty i l = grind (arith, nat_tests)

pub payloads_none : (i : Information) (content : List ℕ) → i.transfer_length ≡ 0
    → payloads_of i content ≡ None ∷ []
unfolding payloads_of
payloads_none i content z = ap
    (λ (b : Bool). cond b (None ∷ []) (map (λ s. Some s) (symbols_of i content))) (empty_is i z)

pub payloads_some : (i : Information) (content : List ℕ) → 0 < i.transfer_length
    → payloads_of i content ≡ map (λ s. Some s) (symbols_of i content)
unfolding payloads_of
payloads_some i content l = ap
    (λ (b : Bool). cond b (None ∷ []) (map (λ s. Some s) (symbols_of i content))) (not_empty i l)

length-payloads_of : (i : Information) (content : List ℕ) → IsValid i
    → length (payloads_of i content) ≡ max (length (ids i)) 1
length-payloads_of i content v = elim (eq-zero-or-pos i.transfer_length) [
  | inl z ↦ omega (arith, ap length (payloads_none i content z), ap length (no_symbol i v z))
  | inr l ↦ let is = ap length (payloads_some i content l) ∙ length-map (symbols_of i content)
      (λ s. Some s) ∙ length-symbols_of i content in omega (arith, is, some_symbol i v l)
]

payload_there : (i : Information) (content : List ℕ) (k : ℕ) → IsValid i → k < max (length (ids i))
    1 → slice_get (payloads_of i content) k ≡ Some (slice_get (symbols_of i content) k)
payload_there i content k v h = elim (eq-zero-or-pos i.transfer_length) [
  | inl z ↦
      let none = no_symbol i v z in
      let first : k ≡ 0 = omega (arith, h, ap length none) in
      let is : slice_get (symbols_of i content) k ≡ None =
      slice_get_past (symbols_of i content) k
      (omega (arith, length-symbols_of i content, ap length none)) in
      ap (λ xs. slice_get xs k) (payloads_none i content z)
      ∙ ap (λ (j : ℕ). slice_get (None ∷ []) j) first ∙ ap (λ o. Some o) (sym is)
  | inr l ↦
      let within : k < length (symbols_of i content) =
      omega (arith, h, some_symbol i v l, length-symbols_of i content) in
      ap (λ xs. slice_get xs k) (payloads_some i content l)
      ∙ slice_get-map (λ s. Some s) (symbols_of i content) k
      ∙ wrapped (symbols_of i content) k within
]
  where
    wrapped : (xs : List (SymbolId × List ℕ)) (k : ℕ) → k < length xs
        → option_map (λ s. Some s) (slice_get xs k) ≡ Some (slice_get xs k)
    wrapped [] k h = absurd (omega (arith, h))
    wrapped (x ∷ xs) zero h = refl
    wrapped (x ∷ xs) (suc k) h = wrapped xs k (omega (arith, h))

pub length-packets_of : (key : Key) (i : Information) (content : List ℕ) → IsValid i
    → length (packets_of key i content) ≡ max (length (ids i)) 1
unfolding packets_of
length-packets_of key i content v =
    length-map (payloads_of i content) (packet_at key (Some i)) ∙ length-payloads_of i content v

pub packet_there : (key : Key) (i : Information) (content : List ℕ) (k : ℕ) → IsValid i → k < max
    (length (ids i)) 1 → slice_get (packets_of key i content) k ≡ Some
    (packet_at key (Some i) (slice_get (symbols_of i content) k))
unfolding packets_of
packet_there key i content k v h = slice_get-map (packet_at key (Some i)) (payloads_of i content) k
    ∙ ap (option_map (packet_at key (Some i))) (payload_there i content k v h)

-- one more packet is written
pub take_one_more : {X : Type 0} (xs : List X) (k : ℕ) (x : X) → slice_get xs k ≡ Some x
    → take (k + 1) xs ≡ take k xs ++ x ∷ []
take_one_more [] k x h = absurd (cc)
take_one_more (y ∷ xs) zero x h = let e : y ≡ x = cc in ap (λ z. z ∷ []) e
take_one_more (y ∷ xs) (suc k) x h =
    let e : suc k + 1 ≡ suc (k + 1) = omega arith in
    rw e (ap (λ zs. y ∷ zs) (take_one_more xs k x h))

both_push : (ds : List (List ℕ)) (cs : List Content) (d : List ℕ) (c : Content) → AllZip IsWritten
    ds cs → IsWritten d c → AllZip IsWritten (ds ++ d ∷ []) (cs ++ c ∷ [])
both_push [] [] d c all one = (one, tt)
both_push [] (x ∷ cs) d c all one = absurd all
both_push (x ∷ ds) [] d c all one = absurd all
both_push (x ∷ ds) (y ∷ cs) d c all one = (all.0, both_push ds cs d c all.1 one)

pub one_more : (key : Key) {i : Information} (content : List ℕ) (k : ℕ) (ds : List (List ℕ))
    {d : List ℕ} → IsValid i → k < max (length (ids i)) 1
    → AllZip IsWritten ds (take k (packets_of key i content))
    → IsWritten d (packet_at key (Some i) (slice_get (symbols_of i content) k))
    → AllZip IsWritten (ds ++ d ∷ []) (take (k + 1) (packets_of key i content))
one_more key {i = i} content k ds {d = d} v h all one =
    let c = packet_at key (Some i) (slice_get (symbols_of i content) k) in
    let cs = packets_of key i content in
    subst (λ (xs : List Content). AllZip IsWritten (ds ++ d ∷ []) xs)
    (sym (take_one_more cs k c (packet_there key i content k v h)))
    (both_push ds (take k cs) d c all one)

-- the facts that the packets contain
all_told : (key : Key) (i : Information) (payloads : List (Option (SymbolId × List ℕ)))
    (ds : List (List ℕ)) → AllZip IsWritten ds (map (packet_at key (Some i)) payloads) → flat_map
    (facts key.session.sender) ds ≡ flat_map (outgoing_facts key (Some i)) payloads
all_told key i [] [] all = refl
all_told key i [] (d ∷ ds) all = absurd all
all_told key i (p ∷ ps) [] all = absurd all
all_told key i (p ∷ ps) (d ∷ ds) all =
    let one = facts_told d key (Some i) p all.0 in
    let rest = all_told key i ps ds all.1 in
    flat_map-cons (facts key.session.sender) d ds
    ∙ ap (λ (fs : List Fact). fs ++ flat_map (facts key.session.sender) ds) one
    ∙ ap (λ (fs : List Fact). outgoing_facts key (Some i) p ++ fs) rest
    ∙ sym (flat_map-cons (outgoing_facts key (Some i)) p ps)

pub facts_are_sent : (key : Key) (i : Information) (content : List ℕ) (ds : List (List ℕ))
    → AllZip IsWritten ds (packets_of key i content)
    → flat_map (facts key.session.sender) ds ≡ facts_sent key i content
unfolding packets_of facts_sent
facts_are_sent key i content ds all = all_told key i (payloads_of i content) ds all
