-- A packet's symbol: its bytes are the last ones of the datagram.
use Rattle.std.proofs.Common.{◌≡◌, ℕ, ◌+◌, ◌-◌, ◌<◌, List, ◌++◌, length, Option, Some, None, Bool}
use Rattle.std.proofs.Common.{true, false, refl, sym, ap, ◌∙◌, subst, arith, if◌then◌else◌}
use Rattle.std.specs.Prelude.{nat_lt, take, drop}
use Rattle.std.proofs.lemmas.Bool.{ltb-true}
use Rattle.std.proofs.lemmas.List.{append_assoc, length-append, length-drop, take_all}
use Rattle.std.proofs.lemmas.Option.{same_Some}
use Rattle.std.proofs.Math.Seq.{drop-append-add}
use Rattle.flute_parts.specs.declared.symbol_id.SymbolId.{SymbolId}
use Rattle.flute_wire.specs.Content.{Content}
use Rattle.flute_wire.specs.Datagram.{Spells, tail_symbol}

-- the bytes of a list, as many as there are, after all but so many
abbrev last_of : ℕ → List ℕ → List ℕ
last_of n l = take n (drop (length l - n) l)

-- all but the first four bytes of a tail are the last of what ends with the tail
last_of_tail : (front tail : List ℕ) → 4 < length tail
    → last_of (length (drop 4 tail)) (front ++ tail) ≡ drop 4 tail
last_of_tail front tail long =
    let n = length (drop 4 tail) in
    let size = length-append front tail in
    let left = length-drop 4 tail in
    let at : length (front ++ tail) - n ≡ length front + 4 = omega (arith, size, left) in
    ap (λ k. take n (drop k (front ++ tail))) at ∙ ap (take n) (drop-append-add front tail 4)
    ∙ take_all n (drop 4 tail) (omega arith)

last_if : (front tail : List ℕ) (id last : SymbolId) (bytes : List ℕ) (b : Bool)
    → nat_lt 4 (length tail) ≡ b
    → if◌then◌else◌ {A = Option (SymbolId × List ℕ)} b (Some (last, drop 4 tail)) None
    ≡ Some (id, bytes)
    → last_of (length bytes) (front ++ tail) ≡ bytes
last_if front tail id last bytes true long e =
    let same : drop 4 tail ≡ bytes = ap (λ x. x.1) (same_Some _ _ e) in
    subst (λ (bs : List ℕ). last_of (length bs) (front ++ tail) ≡ bs) same
    (last_of_tail front tail (ltb-true 4 (length tail) long))
last_if front tail id last bytes false long e = absurd cc

-- the symbol of a packet is the last bytes of its datagram
pub symbol_is_last : (d : List ℕ) (c : Content) (id : SymbolId) (bytes : List ℕ) → Spells d c
    → c.symbol ≡ Some (id, bytes)
    → Some (id, take (length bytes) (drop (length d - length bytes) d)) ≡ c.symbol
symbol_is_last d c id bytes (p, parts, accepted, is) e =
    let front = p.word ++ (p.cci ++ (p.tsi ++ (p.toi ++ p.area))) in
    let joined : d ≡ front ++ p.tail =
    rw (
      append_assoc p.word (p.cci ++ (p.tsi ++ (p.toi ++ p.area))) p.tail,
      append_assoc p.cci (p.tsi ++ (p.toi ++ p.area)) p.tail,
      append_assoc p.tsi (p.toi ++ p.area) p.tail,
      append_assoc p.toi p.area p.tail,
    )
    parts.joined in
    let told : tail_symbol p.tail ≡ Some (id, bytes) = ap (λ (k : Content). k.symbol) (sym is) ∙ e in
    let last : last_of (length bytes) (front ++ p.tail) ≡ bytes =
    last_if front p.tail id _ bytes (nat_lt 4 (length p.tail)) refl told in
    ap (λ bs. Some (id, bs)) (subst (λ l. last_of (length bytes) l ≡ bytes) (sym joined) last)
    ∙ sym e
