-- carousel: the packets of an object, by their numbers (flute_wire: specs/Carousel).
use Rattle.std.proofs.Common.{rules}
use Rattle.std.proofs.Common.{◌≡◌, ℕ, zero, suc, ◌+◌, ◌<◌, ◌≤◌, max, min, inl, inr, List}
use Rattle.std.proofs.Common.{[], ◌∷◌, ◌++◌, length, map, take, drop}
use Rattle.std.proofs.Common.{Option, Some, None, Result, Ok, Err, refl, ap, ◌∙◌, arith}
use Rattle.std.proofs.Common.{append-nil, length-append, take_at, drop_at, take_all}
use Rattle.std.specs.Prelude.{slice_get, IfSome}
use Rattle.std.specs.Io.KnownBytes.{Consumes}
use Rattle.std.specs.List.{AllZip, enumerate_from}
use Rattle.std.specs.Option.{option_map, option_or}
use Rattle.std.proofs.Math.ListN.{drop_of_length-le}
use Rattle.std.proofs.Math.Nat.{eq-zero-or-pos}
use Rattle.std.proofs.lemmas.Bool.{cases_lt}
use Rattle.std.proofs.lemmas.List.{length-map, nil_from_length}
use Rattle.std.proofs.lemmas.List.FromFn.{length-enumerate_from}
use Rattle.std.proofs.lemmas.Option.{slice_get-map, slice_get_past}
use Rattle.flute_parts.specs.Information.{Information, IsValid}
use Rattle.flute_parts.specs.Partition.{ids}
use Rattle.flute_parts.specs.declared.key.Key.{Key}
use Rattle.flute_parts.proofs.Public.{div_ceil-pos, div_ceil-zero, ids_counted}
use Rattle.flute_wire.specs.Carousel.{piece, with_piece, symbols_of, payloads_of, packets_of}
use Rattle.flute_wire.specs.Carousel.{first_object_fault}
use Rattle.flute_wire.specs.Content.{Content}
use Rattle.flute_wire.specs.Writing.{packet_at, IsWritten, write_fault}
use Rattle.flute_wire.specs.declared.writing.WriteFault.{WriteFault}
use Rattle.flutejoin.specs.Sending.{packet_with, symbol_with, UnlessRead}
use Rattle.flutejoin.specs.declared.command_fault.CommandFault.{CommandFault}

-- what was written has no fault
pub no_fault : {T : Type 0} (r : Result T WriteFault) (d : T) (o : Option WriteFault)
    → r ≡ Ok d → IfSome o (λ f. r ≡ Err f) → o ≡ None
no_fault x0 x1 x2 x3 x4 = search rules

-- what was read is the next piece, and the rest is left
pub taken : {u : Option (List ℕ)} (v : Option (List ℕ)) (bytes : List ℕ) {rest : List ℕ} {left : ℕ}
    (size : ℕ) → u ≡ Some rest → length rest ≡ left → Consumes u v bytes → length bytes ≡ min left
    size → (bytes ≡ take size rest) × (v ≡ Some (drop size rest))
taken v bytes {rest = rest} {left = left} size known whole read count =
    of_rest v (rw (← known) read)
  where
    of_rest : (v : Option (List ℕ)) → Consumes (Some rest) v bytes
        → (bytes ≡ take size rest) × (v ≡ Some (drop size rest))
    of_rest None r = absurd r
    of_rest (Some more) r =
        let n : length rest ≡ length bytes + length more = cc (length-append bytes more) in
        elim (cases_lt left size) [
          | inr enough ↦
              let full : length bytes ≡ size = omega arith in (
                cc (take_at bytes more size full),
                cc (drop_at bytes more size full),
              )
          | inl few ↦
              let none : more ≡ [] =
              nil_from_length more (omega arith) in
              let all : rest ≡ bytes = cc (append-nil bytes) in
              let short : length rest ≤ size = omega arith in (
                cc (take_all size rest short),
                cc (drop_of_length-le rest short),
              )
        ]

-- ---- which packet has which number

-- the element at a place, with the place
with_place : {X : Type 0} (n : ℕ) (xs : List X) (k : ℕ)
    → slice_get (enumerate_from n xs) k ≡ option_map (λ x. (n + k, x)) (slice_get xs k)
with_place n [] k = refl
with_place n (x ∷ xs) zero = ap (λ (m : ℕ). Some (m, x)) (omega arith)
with_place n (x ∷ xs) (suc k) = search (rules, with_place (n + 1) xs k)

symbol_there : (i : Information) (content : List ℕ) (k : ℕ)
    → slice_get (symbols_of i content) k ≡ symbol_with i k (piece i content k)
unfolding symbols_of
symbol_there i content k = search (rules, slice_get-map, with_place, piece)

-- how many symbols, payloads and packets an object has
length-symbols_of : (i : Information) (content : List ℕ)
    → length (symbols_of i content) ≡ length (ids i)
unfolding symbols_of
length-symbols_of i content = length-map (enumerate_from 0 (ids i)) (with_piece i content) ∙
    length-enumerate_from 0 (ids i)

pub no_symbol : (i : Information) → IsValid i → i.transfer_length ≡ 0 → length (ids i) ≡ 0
no_symbol i v z = search (rules, ids_counted, div_ceil-zero)

some_symbol : (i : Information) → IsValid i → 0 < i.transfer_length → 0 < length (ids i)
some_symbol i v h = omega (arith, ids_counted i v, div_ceil-pos i.transfer_length i.symbol_length h)

payloads_none : (i : Information) (content : List ℕ) → i.transfer_length ≡ 0
    → payloads_of i content ≡ None ∷ []
unfolding payloads_of
payloads_none i content z = search rules

payloads_some : (i : Information) (content : List ℕ) → 0 < i.transfer_length
    → payloads_of i content ≡ map (λ s. Some s) (symbols_of i content)
unfolding payloads_of
payloads_some i content l = search rules

length-payloads_of : (i : Information) (content : List ℕ) → IsValid i
    → length (payloads_of i content) ≡ max (length (ids i)) 1
length-payloads_of i content v = elim (eq-zero-or-pos i.transfer_length) [
  | inl z ↦ omega (arith, ap length (payloads_none i content z), no_symbol i v z)
  | inr l ↦ let is = ap length (payloads_some i content l) ∙ length-map (symbols_of i content)
      (λ s. Some s) ∙ length-symbols_of i content in omega (arith, some_symbol i v l)
]

wrapped : {X : Type 0} (xs : List X) (k : ℕ) → k < length xs
    → option_map (λ s. Some s) (slice_get xs k) ≡ Some (slice_get xs k)
wrapped [] k h = absurd (omega arith)
wrapped (x ∷ xs) zero h = refl
wrapped (x ∷ xs) (suc k) h = wrapped xs k (omega arith)

-- payload k and packet k of an object
payload_there : (i : Information) (content : List ℕ) (k : ℕ) → IsValid i → k < max (length (ids i))
    1 → slice_get (payloads_of i content) k ≡ Some (slice_get (symbols_of i content) k)
payload_there i content k v h = search (
  rules,
  no_symbol,
  slice_get_past,
  length-symbols_of,
  payloads_none,
  some_symbol,
  payloads_some,
  slice_get-map,
  wrapped,
)

pub length-packets_of : (key : Key) (i : Information) (content : List ℕ) → IsValid i
    → length (packets_of key i content) ≡ max (length (ids i)) 1
unfolding packets_of
length-packets_of key i content v =
    length-map (payloads_of i content) (packet_at key (Some i)) ∙ length-payloads_of i content v

pub packet_there : (key : Key) (i : Information) (content : List ℕ) (k : ℕ) → IsValid i
    → k < max (length (ids i)) 1
    → slice_get (packets_of key i content) k ≡ Some (packet_with key i k (piece i content k))
unfolding packets_of
packet_there key i content k v h = search (rules, slice_get-map, payload_there, symbol_there) steps
    400000

-- ---- one packet more

pub or_none : (a b : Option WriteFault) → option_or a b ≡ None → (a ≡ None) × (b ≡ None)
or_none x0 x1 x2 = search rules

-- the first fault is that of a packet before which there is none
pub first_at : (cs : List Content) (k : ℕ) (c : Content) (fault : WriteFault)
    → first_object_fault (take k cs) ≡ None → slice_get cs k ≡ Some c
    → write_fault c ≡ Some fault → first_object_fault cs ≡ Some fault
first_at [] k c fault before here h = absurd (cc)
first_at (x ∷ cs) zero c fault before here h =
    let is : x ≡ c = cc in
    ap (λ (f : Option WriteFault). option_or f (first_object_fault cs)) (ap write_fault is ∙ h)
first_at (x ∷ cs) (suc k) c fault before here h =
    let none = or_none (write_fault x) (first_object_fault (take k cs)) before in
    ap (λ (f : Option WriteFault). option_or f (first_object_fault cs)) none.0
    ∙ first_at cs k c fault none.1 here h

pub none_more : (cs : List Content) (c : Content) → first_object_fault cs ≡ None
    → write_fault c ≡ None → first_object_fault (cs ++ c ∷ []) ≡ None
none_more [] c none h = ap (λ (f : Option WriteFault). option_or f None) h
none_more (x ∷ cs) c none h =
    let each = or_none (write_fault x) (first_object_fault cs) none in
    ap (λ (f : Option WriteFault). option_or f (first_object_fault (cs ++ c ∷ []))) each.0
    ∙ none_more cs c each.1 h

pub take_one_more : {X : Type 0} (xs : List X) (k : ℕ) (x : X) → slice_get xs k ≡ Some x
    → take (k + 1) xs ≡ take k xs ++ x ∷ []
take_one_more [] k x h = absurd (cc)
take_one_more (y ∷ xs) zero x h = let e : y ≡ x = cc in ap (λ z. z ∷ []) e
take_one_more (y ∷ xs) (suc k) x h = search (rules, take_one_more xs k x h)

pub both_more : (ds : List (List ℕ)) (cs : List Content) (d : List ℕ) (c : Content)
    → AllZip IsWritten ds cs → IsWritten d c → AllZip IsWritten (ds ++ d ∷ []) (cs ++ c ∷ [])
both_more [] [] d c all one = (one, tt)
both_more [] (x ∷ cs) d c all one = absurd all
both_more (x ∷ ds) [] d c all one = absurd all
both_more (x ∷ ds) (y ∷ cs) d c all one = (all.0, both_more ds cs d c all.1 one)

pub unless_read : {T : Type 0} (P : Type 0) (r : Result T CommandFault) → P → UnlessRead r P
unless_read P other p = search rules
