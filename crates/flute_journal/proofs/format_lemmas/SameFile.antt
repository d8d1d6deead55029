-- The bytes of an entry of a symbol of the same file as the entry before it.
use Rattle.std.proofs.Common.{rules}
use Rattle.flute_journal.proofs.Common.{◌≡◌, ℕ, ◌<◌, List, ◌∷◌, ◌++◌, length}
use Rattle.flute_journal.proofs.Common.{take, drop, get_or, Option, Some, None, IfSome, sym, ap}
use Rattle.flute_journal.proofs.Common.{◌∙◌, arith, length-take-le, length-drop}
use Rattle.flute_journal.proofs.Common.{take-append-drop, AllByRecursion, IsByte, IsKey, Key}
use Rattle.flute_journal.proofs.Common.{Address, SymbolId, Two, HeadIn, RestIs, head_bytes}
use Rattle.flute_journal.proofs.Common.{big_endian, in_bytes, key_bytes, name_bytes, object_bytes}
use Rattle.flute_journal.proofs.Common.{is_after, true, refl, key_size, ObjectName}
use Rattle.flute_journal.specs.Format.{sender_size}
use Rattle.std.proofs.Math.Seq.{drop-cons}
use Rattle.std.proofs.Common.{is_lt}
use Rattle.flute_parts.specs.Order.{part_cmp}
use Rattle.flute_parts.specs.ObjectName.{toi_of}
use Rattle.flute_parts.specs.declared.address.Part.{Part}
use Rattle.flute_journal.specs.declared.format.EntryHead.TheVariants.{Symbol}
use Rattle.flute_journal.specs.declared.format.Kind.TheVariants as kinds
use Rattle.flute_journal.proofs.{Numbers.{spelled, octets-take, octets-drop}, format_lemmas.Decoded.{LieInKey}, format_lemmas.Entries.{room_two}}

file_bytes_of : (o : ObjectName) (n : ℕ) → n ≡ toi_of o → 0 < n → 1 ∷ in_bytes 14 n ≡ object_bytes o
file_bytes_of x0 x1 x2 x3 = search rules

-- bytes with the numbers of a file are those that name it
pub file_named : (key : Key) (bs : List ℕ) → length bs ≡ 21 → AllByRecursion IsByte bs → get_or bs 6
    0 ≡ 1 → key.session.tsi ≡ big_endian (take 6 bs) → toi_of key.object ≡ big_endian (drop 7 bs) →
    0 < toi_of key.object → name_bytes key ≡ bs
file_named key bs len oct one is number some =
    let toi = toi_of key.object in
    let front : in_bytes 6 key.session.tsi ≡ take 6 bs = ap (in_bytes 6) is ∙ spelled 6 (take 6 bs)
    (length-take-le 6 bs (omega (arith, len))) (octets-take 6 bs oct) in
    let back : in_bytes 14 toi ≡ drop 7 bs = ap (in_bytes 14) number ∙ spelled 14 (drop 7 bs)
    (omega (arith, len, length-drop 7 bs)) (octets-drop 7 bs oct) in
    let tagged : 1 ∷ drop 7 bs ≡ drop 6 bs = ap (λ x. x ∷ drop 7 bs) (sym one) ∙ sym
    (drop-cons bs 6 0 (omega (arith, len))) in
    let named : object_bytes key.object ≡ drop 6 bs = sym (file_bytes_of key.object toi refl some) ∙
    ap (λ (x : List ℕ). 1 ∷ x) back ∙ tagged in (λ i. front i ++ named i) ∙ take-append-drop 6 bs

-- a part after that of an address is after it in the same object
pub part_after : (last : Address) (part : Part) → is_lt (part_cmp last.part part) ≡ true
    → is_after (Some last) (record { key = last.key; part = part }) ≡ true
part_after last part h = search rules

-- what follows the key of the entry before, with that key
pub next_read : (last : Address) {bs a : List ℕ} (b : List ℕ) (o : Option (SymbolId × ℕ))
    → key_bytes Two last.key ≡ a → IsKey last.key → bs ≡ a ++ b
    → IfSome o (λ s. RestIs (Some last) kinds.Symbol last.key b (Symbol last.key s.0 s.1))
    → IfSome o (λ s. HeadIn Two (Some last) kinds.Symbol (Symbol last.key s.0 s.1)
    × (head_bytes Two (Symbol last.key s.0 s.1) ≡ bs))
next_read last b None spelled valid is h = tt
next_read last b (Some s) spelled valid is h =
    ((h.0, room_two last.key valid), (λ i. spelled i ++ h.2 i) ∙ sym is)

-- bytes that spell the sender and the name of a key are those of the key
pub key_named : (key : Key) {bs front back : List ℕ} {sender : ℕ} → LieInKey Two bs front back
    sender → sender ≡ key.session.sender → name_bytes key ≡ back → key_bytes Two key ≡ bs
key_named key {bs = bs} {front = front} {back = back} l own named =
    let m = sender_size Two in
    let first : front ≡ take m bs = l.front_is ∙ ap (λ k. take k bs) l.size_is in
    let then : back ≡ drop m bs = l.back_is ∙ ap (λ k. drop k bs) l.size_is in
    let long : length (take m bs) ≡ m = length-take-le m bs (omega (arith, l.long)) in
    let spelled_sender : in_bytes m key.session.sender ≡ take m bs =
    ap (in_bytes m) (sym own ∙ l.sender_is ∙ ap big_endian first)
    ∙ spelled m (take m bs) long (octets-take m bs l.octets) in
    let name : name_bytes key ≡ drop m bs = named ∙ then in
    (λ i. spelled_sender i ++ name i) ∙ take-append-drop m bs

-- how many bytes those of a key are
pub key_size_two : 37 ≡ key_size Two
unfolding sender_size
key_size_two = refl
