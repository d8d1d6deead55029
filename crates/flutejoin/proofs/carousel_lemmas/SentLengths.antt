-- carousel: if one packet of an object can be written, all can.
use Rattle.std.proofs.lemmas.Grind.{common_steps}
use Rattle.std.proofs.Common.{rules}
use Rattle.std.proofs.Common.{◌≡◌, ℕ, zero, suc, ◌+◌, ◌-◌, ◌*◌, ◌<◌, ◌≤◌, min, max, inl}
use Rattle.std.proofs.Common.{inr, List, [], ◌∷◌, length, take, Bool, false, cond}
use Rattle.std.proofs.Common.{Option, Some, None, refl, ap, ◌∙◌, arith}
use Rattle.std.specs.Prelude.{slice_get}
use Rattle.std.specs.Int.{div_ceil}
use Rattle.std.specs.Option.{option_or}
use Rattle.std.proofs.Math.Nat.{eq-zero-or-pos}
use Rattle.std.proofs.lemmas.Grind.{div_ceil_times}
use Rattle.std.proofs.lemmas.Option.{slice_get_within, slice_get_cases, slice_get-get_or, same_Some}
use Rattle.flute_parts.specs.Information.{Information, IsValid}
use Rattle.flute_parts.specs.Partition.{ids}
use Rattle.flute_parts.specs.declared.key.Key.{Key}
use Rattle.flute_parts.specs.declared.symbol_id.SymbolId.{SymbolId}
use Rattle.flute_parts.proofs.Public.{ids_counted}
use Rattle.flute_wire.specs.Carousel.{piece, packets_of, first_object_fault}
use Rattle.flute_wire.specs.Content.{Content}
use Rattle.flute_wire.specs.Writing.{packet_at}
use Rattle.flute_wire.specs.Writing.{write_fault}
use Rattle.flute_wire.specs.declared.writing.WriteFault.{WriteFault}
use Rattle.flute_wire.specs.declared.writing.WriteFault.TheVariants.{Tsi, Toi, EmptySymbol, TooLong}
use Rattle.flutejoin.specs.Sending.{packet_with}
use Rattle.flutejoin.proofs.carousel_lemmas.SentPackets.{length-packets_of, no_symbol}
use Rattle.flutejoin.proofs.carousel_lemmas.SentPackets.{packet_there}

abbrev chain : Bool → Bool → Bool → Bool → Option WriteFault
chain a b s l =
    cond a (Some Tsi) (cond b (Some Toi) (cond s (Some EmptySymbol) (cond l (Some TooLong) None)))

none_applies : (a b s l : Bool) → chain a b s l ≡ None
    → (a ≡ false) × (b ≡ false) × (s ≡ false) × (l ≡ false)
none_applies x0 x1 x2 x3 x4 = search rules

no_fault : (a b s l : Bool) → a ≡ false → b ≡ false → s ≡ false → l ≡ false → chain a b s l ≡ None
no_fault a b s l one two three four = search rules

-- a packet with a symbol that is no longer can be written too
shorter : (key : Key) (i : Option Information) (id other : SymbolId) (bytes more : List ℕ)
    → (0 < length bytes) × (length bytes ≤ length more)
    → write_fault (packet_at key i (Some (other, more))) ≡ None
    → write_fault (packet_at key i (Some (id, bytes))) ≡ None
shorter key i id other bytes more fits none = search rules

length-piece : (i : Information) (content : List ℕ) (k : ℕ)
    → length (piece i content k) ≡ min i.symbol_length (length content - k * i.symbol_length)
length-piece i content k = grind (arith, common_steps)

below : (k t e l : ℕ) → k < t → t * e < l + e → k * e < l
below k t e l h b = search rules

first_none : (cs : List Content)
    → ((k : ℕ) (c : Content) → slice_get cs k ≡ Some c → write_fault c ≡ None)
    → first_object_fault cs ≡ None
first_none [] each = refl
first_none (x ∷ cs) each = ap (λ (f : Option WriteFault). option_or f (first_object_fault cs))
    (each 0 x refl) ∙ first_none cs (λ k c h. each (suc k) c h)

-- the first packet has no fault if none of some has, and the next
first_of : (cs : List Content) (k : ℕ) (c d : Content) → first_object_fault (take k cs) ≡ None →
    slice_get cs k ≡ Some c → write_fault c ≡ None → slice_get cs 0 ≡ Some d → write_fault d ≡ None
first_of [] k c d before here h first = absurd (cc)
first_of (x ∷ cs) zero c d before here h first = search rules
first_of (x ∷ cs) (suc k) c d before here h first = search rules

module _ (key : Key) (i : Information) (content : List ℕ) (valid : IsValid i)
    (whole : length content ≡ i.transfer_length) where
  abbrev packet : ℕ → Content
  packet k = packet_with key i k (piece i content k)

  begins_within : (k : ℕ) → k < length (ids i) → k * i.symbol_length < i.transfer_length
  begins_within k h = elim (eq-zero-or-pos i.transfer_length) [
    | inl z ↦ absurd (omega (arith, no_symbol i valid z))
    | inr l ↦ below k (div_ceil i.transfer_length i.symbol_length) i.symbol_length
        i.transfer_length (omega (arith, ids_counted i valid))
        (div_ceil_times i.transfer_length i.symbol_length (valid.parts l).symbol).1
  ]

  each_sent : write_fault (packet 0) ≡ None → (k : ℕ) → k < max (length (ids i)) 1
      → write_fault (packet k) ≡ None
  each_sent none k h = elim ((slice_get_cases (ids i) k).1) [
    | inr past ↦ let first : k ≡ 0 = omega arith in rw first none
    | inl there ↦ let id = there.0 in
        let some : slice_get (ids i) 0 ≡ Some _ = slice_get-get_or (ids i) 0 id (omega arith) in
        let begins = begins_within k there.1 in
        let size : 0 < i.symbol_length = (valid.parts (omega arith)).symbol in
        let one = rw some at none in
        let fits : (0 < length (piece i content k)) ×
        (length (piece i content k) ≤ length (piece i content 0)) = (
          omega
              (arith, length-piece i content k),
          omega
              (arith, length-piece i content k, length-piece i content 0),
        ) in rw there.2
        (shorter key (Some i) id _ (piece i content k) (piece i content 0) fits one)
  ]

  -- no packet has a fault, if none of the first has, and the next
  pub none_fails : (place : ℕ) → place < max (length (ids i)) 1
      → first_object_fault (take place (packets_of key i content)) ≡ None
      → write_fault (packet place) ≡ None → first_object_fault (packets_of key i content) ≡ None
  none_fails place within before h =
      first_none (packets_of key i content) each
    where
      first : write_fault (packet 0) ≡ None
      first = first_of (packets_of key i content) place (packet place) (packet 0) before
          (packet_there key i content place valid within) h
          (packet_there key i content 0 valid (omega arith))

      each : (k : ℕ) (c : Content) → slice_get (packets_of key i content) k ≡ Some c
          → write_fault c ≡ None
      each k c some =
          let w : k < max (length (ids i)) 1 =
          omega (
            arith,
            slice_get_within (packets_of key i content) k c some,
            length-packets_of key i content valid,
          ) in
          let is : packet k ≡ c =
          same_Some (packet k) c (cc (packet_there key i content k valid w)) in
          rw (← is) (each_sent first k w)
