-- Why an object is not sent (specs/Carousel: carousel_fault).
use Rattle.std.proofs.Common.{rules}
use Rattle.std.proofs.Common.{◌≡◌, ℕ, suc, ◌-◌, ◌*◌, ◌<◌, ◌≤◌}
use Rattle.std.proofs.Common.{min, max, inl, inr, List, [], ◌∷◌, length, drop, Bool}
use Rattle.std.proofs.Common.{false, cond, Option, Some, None, refl, sym, ap, subst}
use Rattle.std.proofs.Common.{◌∙◌, arith}
use Rattle.std.specs.Prelude.{slice_get}
use Rattle.std.specs.Option.{option_map, option_or}
use Rattle.std.proofs.lemmas.Option.{slice_get_within, slice_get_cases, slice_get-get_or, same_Some}
use Rattle.std.proofs.lemmas.List.{length-take, length-drop}
use Rattle.flute_parts.specs.Information.{Information, IsValid}
use Rattle.flute_parts.specs.Partition.{ids}
use Rattle.flute_parts.specs.declared.symbol_id.SymbolId.{SymbolId}
use Rattle.flute_parts.specs.declared.key.Key.{Key}
use Rattle.flute_wire.specs.declared.writing.WriteFault.{WriteFault}
use Rattle.flute_wire.specs.declared.writing.WriteFault.TheVariants.{Tsi, Toi, EmptySymbol, TooLong}
use Rattle.flute_wire.specs.declared.sending.CarouselFault.TheVariants.{Length, Write}
use Rattle.flute_wire.specs.Content.{Content}
use Rattle.flute_wire.specs.Writing.{packet_at}
use Rattle.flute_wire.specs.Writing.{write_fault}
use Rattle.flute_wire.specs.Carousel.{piece, symbols_of, packets_of, first_object_fault}
use Rattle.flute_wire.specs.Carousel.{carousel_fault}
use Rattle.flute_wire.proofs.Written.{IsSent}
use Rattle.flute_wire.proofs.Pieces.{symbol_there, begins_within, length-packets_of, packet_there}

faultless : (a b s l : Bool) → a ≡ false → b ≡ false → s ≡ false → l ≡ false → cond a (Some Tsi)
    (cond b (Some Toi) (cond s (Some EmptySymbol) (cond l (Some TooLong) None))) ≡ None
faultless a b s l one two three four = rw (one, two, three, four) refl

sent : (c : Content) → IsSent c → write_fault c ≡ None
sent c p = search rules

-- a packet with a symbol that is no longer can be written too
shorter : (key : Key) (i : Option Information) (short long : SymbolId × List ℕ) → 0 < length short.1
    → length short.1 ≤ length long.1 → write_fault (packet_at key i (Some long)) ≡ None →
    write_fault (packet_at key i (Some short)) ≡ None
shorter x0 x1 x2 x3 x4 x5 x6 = search rules

pub length-piece : (i : Information) (content : List ℕ) (k : ℕ)
    → length (piece i content k) ≡ min i.symbol_length (length content - k * i.symbol_length)
length-piece i content k = length-take i.symbol_length (drop (k * i.symbol_length) content) ∙ ap
    (min i.symbol_length) (length-drop (k * i.symbol_length) content)

symbol_is : (i : Information) (content : List ℕ) (k : ℕ) (id : SymbolId) → slice_get (ids i) k ≡
    Some id → slice_get (symbols_of i content) k ≡ Some (id, piece i content k)
symbol_is i content k id some =
    symbol_there i content k ∙ ap (option_map (λ id. (id, piece i content k))) some

-- where the first packet can be written, all can
pub all_sent : (key : Key) (i : Information) (content : List ℕ) (k : ℕ) → IsValid i
    → length content ≡ i.transfer_length → k < max (length (ids i)) 1
    → write_fault (packet_at key (Some i) (slice_get (symbols_of i content) 0)) ≡ None
    → write_fault (packet_at key (Some i) (slice_get (symbols_of i content) k)) ≡ None
all_sent key i content k v whole h none = elim ((slice_get_cases (ids i) k).1) [
  | inr past ↦ search rules
  | inl there ↦ let id = there.0 in
      let some : slice_get (ids i) 0 ≡ Some _ = slice_get-get_or (ids i) 0 id
      (omega (arith, there.1)) in
      let begins = begins_within i k v there.1 in
      let len = length-piece i content k in
      let len_0 = length-piece i content 0 in
      let length_some : 0 < i.symbol_length = (v.parts (omega (arith, begins))).symbol in
      let one = subst
      (λ (s : Option (SymbolId × List ℕ)). write_fault (packet_at key (Some i) s) ≡ None)
      (symbol_is i content 0 _ some) none in subst
      (λ (s : Option (SymbolId × List ℕ)). write_fault (packet_at key (Some i) s) ≡ None)
      (sym (symbol_is i content k id there.2)) (shorter key (Some i) (id, piece i content k)
      (_, piece i content 0) (omega (arith, len, begins, length_some, whole))
      (omega (arith, len, len_0)) one)
]

first_some : (cs : List Content) (c : Content) (fault : WriteFault) → slice_get cs 0 ≡ Some c
    → write_fault c ≡ Some fault → first_object_fault cs ≡ Some fault
first_some [] c fault some h = absurd (cc)
first_some (x ∷ cs) c fault some h = search rules

first_none : (cs : List Content)
    → ((k : ℕ) (c : Content) → slice_get cs k ≡ Some c → write_fault c ≡ None)
    → first_object_fault cs ≡ None
first_none [] each = refl
first_none (x ∷ cs) each = ap (λ (f : Option WriteFault). option_or f (first_object_fault cs))
    (each 0 x refl) ∙ first_none cs (λ k c h. each (suc k) c h)

-- the three results: a wrong length, a first packet with a fault, none
pub wrong_length : (key : Key) (i : Information) (content : List ℕ) →
    (length content ≡ i.transfer_length → ⊥) → carousel_fault key i content ≡ Some Length
unfolding carousel_fault
wrong_length key i content h = search rules

whole_is : (key : Key) (i : Information) (content : List ℕ) → length content ≡ i.transfer_length
    → carousel_fault key i content ≡ option_map (λ fault. Write fault)
    (first_object_fault (packets_of key i content))
unfolding carousel_fault
whole_is key i content h = search rules

pub first_refused : (key : Key) (i : Information) (content : List ℕ) (fault : WriteFault)
    → IsValid i → length content ≡ i.transfer_length
    → write_fault (packet_at key (Some i) (slice_get (symbols_of i content) 0)) ≡ Some fault
    → carousel_fault key i content ≡ Some (Write fault)
first_refused key i content fault v whole h = whole_is key i content whole ∙ ap
    (option_map (λ f. Write f))
    (first_some (packets_of key i content) _ fault (packet_there key i content 0 v (omega arith)) h)

pub none_refused : (key : Key) (i : Information) (content : List ℕ) → IsValid i → length content ≡
    i.transfer_length → write_fault (packet_at key (Some i) (slice_get (symbols_of i content) 0)) ≡
    None → carousel_fault key i content ≡ None
none_refused key i content v whole none =
    whole_is key i content whole ∙ ap (option_map (λ f. Write f))
    (first_none (packets_of key i content) each)
  where
    each : (k : ℕ) (c : Content) → slice_get (packets_of key i content) k ≡ Some c
        → write_fault c ≡ None
    each k c some =
        let within : k < max (length (ids i)) 1 =
        omega (
          arith,
          slice_get_within (packets_of key i content) k c some,
          length-packets_of key i content v,
        ) in
        let there = packet_there key i content k v within in
        let is : packet_at key (Some i) (slice_get (symbols_of i content) k) ≡ c =
        same_Some (packet_at key (Some i) (slice_get (symbols_of i content) k)) c
        (sym there ∙ some) in
        ap write_fault (sym is) ∙ all_sent key i content k v whole within none
