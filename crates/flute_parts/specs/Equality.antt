-- Names, values and facts that compare equal are the same.
use Rattle.std.specs.Prelude.{◌≡◌, ℕ, List, Bool, true, false, ◌&&◌, ◌==◌, bytes_eq}
use Rattle.std.proofs.Common.{sym, ap, refl}
use Rattle.std.proofs.lemmas.Bool.{false≢true, eqb-true, eq-eqb}
use Rattle.std.proofs.lemmas.Cmp.{ranked, tied_itself}
use Rattle.std.specs.Cmp.{nat_cmp_total, Equal-is}
use Rattle.std.proofs.lemmas.Slice.Eq.{bytes_eq-Decides}
use Rattle.std.specs.declared.cmp.Ordering.{Ordering}
use Rattle.std.specs.declared.cmp.Ordering.TheVariants.{Less, Equal, Greater}
use Rattle.std.specs.Ordering.{nat_cmp, ordering_then, is_eq}
use Rattle.flute_parts.specs.Session.{Session}
use Rattle.flute_parts.specs.declared.object_key.ObjectName.{ObjectName}
use Rattle.flute_parts.specs.declared.object_key.ObjectName.TheVariants.{Instance, File}
use Rattle.flute_parts.specs.declared.key.Key.{Key}
use Rattle.flute_parts.specs.declared.symbol_id.SymbolId.{SymbolId}
use Rattle.flute_parts.specs.declared.address.Part.{Part}
use Rattle.flute_parts.specs.declared.address.Part.TheVariants.{Info as InfoPart}
use Rattle.flute_parts.specs.declared.address.Part.TheVariants.{Symbol as SymbolPart}
use Rattle.flute_parts.specs.declared.address.Address.{Address}
use Rattle.flute_parts.specs.declared.fact.Fact.{Fact}
use Rattle.flute_parts.specs.declared.fact.Fact.TheVariants.{Info, InfoConflict, Symbol}
use Rattle.flute_parts.specs.declared.fact.Fact.TheVariants.{SymbolConflict}
use Rattle.flute_parts.specs.Information.{Information}
use Rattle.flute_parts.specs.Order.{session_cmp, object_cmp, key_cmp, symbol_id_cmp, part_cmp}
use Rattle.flute_parts.specs.Order.{same_key, same_symbol_id, same_address}
use Rattle.flute_parts.specs.Facts.{same_information, same_fact}

-- tests

pub both : (a b : Bool) → (a && b) ≡ true → (a ≡ true) × (b ≡ true)
both true b h = (refl, h)
both false b h = absurd (false≢true h)

pub both_true : (a b : Bool) → a ≡ true → b ≡ true → (a && b) ≡ true
both_true true b h k = k
both_true false b h k = h

then_both : (a b : Ordering) → is_eq (ordering_then a b) ≡ true
    → (is_eq a ≡ true) × (is_eq b ≡ true)
then_both Less b h = absurd (false≢true h)
then_both Equal b h = (refl, h)
then_both Greater b h = absurd (false≢true h)

then_true : (a b : Ordering) → is_eq a ≡ true → is_eq b ≡ true → is_eq (ordering_then a b) ≡ true
then_true Less b h k = h
then_true Equal b h k = k
then_true Greater b h k = h

is_eq-from : (o : Ordering) → o ≡ Equal → is_eq o ≡ true
is_eq-from o h = ap is_eq h

pub nat_same : (m n : ℕ) → is_eq (nat_cmp m n) ≡ true → m ≡ n
nat_same m n h = ranked m n Equal (sym ((Equal-is (nat_cmp m n)).0 h))

pub nat_itself : (n : ℕ) → is_eq (nat_cmp n n) ≡ true
nat_itself n = ap is_eq (tied_itself nat_cmp_total n)

-- keys

pub session_same : (a b : Session) → is_eq (session_cmp a b) ≡ true → a ≡ b
session_same a b h =
    let p = then_both (nat_cmp a.sender b.sender) (nat_cmp a.tsi b.tsi) h in
    let s = nat_same a.sender b.sender p.0 in
    let t = nat_same a.tsi b.tsi p.1 in
    λ i. record { sender = s i; tsi = t i }

pub session_itself : (a : Session) → is_eq (session_cmp a a) ≡ true
session_itself a =
    then_true (nat_cmp a.sender a.sender) (nat_cmp a.tsi a.tsi) (nat_itself a.sender)
    (nat_itself a.tsi)

pub object_same : (a b : ObjectName) → is_eq (object_cmp a b) ≡ true → a ≡ b
object_same (Instance m) (Instance n) h = ap Instance (nat_same m n h)
object_same (Instance m) (File n) h = absurd (false≢true h)
object_same (File m) (Instance n) h = absurd (false≢true h)
object_same (File m) (File n) h = ap File (nat_same m n h)

pub object_itself : (a : ObjectName) → is_eq (object_cmp a a) ≡ true
object_itself (Instance n) = nat_itself n
object_itself (File n) = nat_itself n

pub key_same : (a b : Key) → same_key a b ≡ true → a ≡ b
key_same a b h =
    let p = then_both (session_cmp a.session b.session) (object_cmp a.object b.object) h in
    let s = session_same a.session b.session p.0 in
    let o = object_same a.object b.object p.1 in
    λ i. record { session = s i; object = o i }

pub key_itself : (a : Key) → same_key a a ≡ true
key_itself a =
    then_true (session_cmp a.session a.session) (object_cmp a.object a.object)
    (session_itself a.session) (object_itself a.object)

pub symbol_id_same : (a b : SymbolId) → same_symbol_id a b ≡ true → a ≡ b
symbol_id_same a b h =
    let p = then_both (nat_cmp a.sbn b.sbn) (nat_cmp a.esi b.esi) h in
    let s = nat_same a.sbn b.sbn p.0 in
    let e = nat_same a.esi b.esi p.1 in
    λ i. record { sbn = s i; esi = e i }

pub symbol_id_itself : (a : SymbolId) → same_symbol_id a a ≡ true
symbol_id_itself a =
    then_true (nat_cmp a.sbn a.sbn) (nat_cmp a.esi a.esi) (nat_itself a.sbn) (nat_itself a.esi)

pub part_same : (a b : Part) → is_eq (part_cmp a b) ≡ true → a ≡ b
part_same InfoPart InfoPart h = refl
part_same InfoPart (SymbolPart n) h = absurd (false≢true h)
part_same (SymbolPart m) InfoPart h = absurd (false≢true h)
part_same (SymbolPart m) (SymbolPart n) h = ap SymbolPart (symbol_id_same m n h)

pub part_itself : (a : Part) → is_eq (part_cmp a a) ≡ true
part_itself InfoPart = refl
part_itself (SymbolPart n) = symbol_id_itself n

pub address_same : (a b : Address) → same_address a b ≡ true → a ≡ b
address_same a b h =
    let p = then_both (key_cmp a.key b.key) (part_cmp a.part b.part) h in
    let k = key_same a.key b.key p.0 in
    let q = part_same a.part b.part p.1 in
    λ i. record { key = k i; part = q i }

pub address_itself : (a : Address) → same_address a a ≡ true
address_itself a =
    then_true (key_cmp a.key a.key) (part_cmp a.part a.part) (key_itself a.key) (part_itself a.part)

pub session_place : (x y : Session) → session_cmp x y ≡ Equal → x ≡ y
session_place x y h = session_same x y (is_eq-from (session_cmp x y) h)

pub object_place : (x y : ObjectName) → object_cmp x y ≡ Equal → x ≡ y
object_place x y h = object_same x y (is_eq-from (object_cmp x y) h)

pub symbol_id_place : (x y : SymbolId) → symbol_id_cmp x y ≡ Equal → x ≡ y
symbol_id_place x y h = symbol_id_same x y (is_eq-from (symbol_id_cmp x y) h)

-- values

pub information_same : (i j : Information) → same_information i j ≡ true → i ≡ j
information_same i j h =
    let p = both (i.transfer_length == j.transfer_length)
    ((i.symbol_length == j.symbol_length) && (i.max_block_length == j.max_block_length)) h in
    let q =
    both (i.symbol_length == j.symbol_length) (i.max_block_length == j.max_block_length) p.1 in
    let l : i.transfer_length ≡ j.transfer_length =
    eqb-true i.transfer_length j.transfer_length p.0 in
    let e : i.symbol_length ≡ j.symbol_length = eqb-true i.symbol_length j.symbol_length q.0 in
    let b : i.max_block_length ≡ j.max_block_length =
    eqb-true i.max_block_length j.max_block_length q.1 in
    λ k. record { transfer_length = l k; symbol_length = e k; max_block_length = b k }

pub eqb_itself : (n : ℕ) → (n == n) ≡ true
eqb_itself n = eq-eqb n n refl

pub information_itself : (i : Information) → same_information i i ≡ true
information_itself i =
    both_true (i.transfer_length == i.transfer_length)
    ((i.symbol_length == i.symbol_length) && (i.max_block_length == i.max_block_length))
    (eqb_itself i.transfer_length)
    (both_true (i.symbol_length == i.symbol_length) (i.max_block_length == i.max_block_length)
    (eqb_itself i.symbol_length) (eqb_itself i.max_block_length))

pub bytes_same : (x y : List ℕ) → bytes_eq x y ≡ true → x ≡ y
bytes_same x y h = (bytes_eq-Decides x y).0 h

-- facts

pub fact_same : (f g : Fact) → same_fact f g ≡ true → f ≡ g
fact_same (Info k i) (Info l j) h =
    let p = both (same_key k l) (same_information i j) h in
    let e = key_same k l p.0 in
    let v = information_same i j p.1 in
    λ t. Info (e t) (v t)
fact_same (InfoConflict k) (InfoConflict l) h = ap InfoConflict (key_same k l h)
fact_same (Symbol k i b) (Symbol l j c) h =
    let p = both (same_key k l) (same_symbol_id i j && bytes_eq b c) h in
    let q = both (same_symbol_id i j) (bytes_eq b c) p.1 in
    let e = key_same k l p.0 in
    let d = symbol_id_same i j q.0 in
    let v = (bytes_eq-Decides b c).0 q.1 in
    λ t. Symbol (e t) (d t) (v t)
fact_same (SymbolConflict k i) (SymbolConflict l j) h =
    let p = both (same_key k l) (same_symbol_id i j) h in
    let e = key_same k l p.0 in
    let d = symbol_id_same i j p.1 in
    λ t. SymbolConflict (e t) (d t)
fact_same (Info k i) (InfoConflict l) h = absurd (false≢true h)
fact_same (Info k i) (Symbol l j c) h = absurd (false≢true h)
fact_same (Info k i) (SymbolConflict l j) h = absurd (false≢true h)
fact_same (InfoConflict k) (Info l j) h = absurd (false≢true h)
fact_same (InfoConflict k) (Symbol l j c) h = absurd (false≢true h)
fact_same (InfoConflict k) (SymbolConflict l j) h = absurd (false≢true h)
fact_same (Symbol k i b) (Info l j) h = absurd (false≢true h)
fact_same (Symbol k i b) (InfoConflict l) h = absurd (false≢true h)
fact_same (Symbol k i b) (SymbolConflict l j) h = absurd (false≢true h)
fact_same (SymbolConflict k i) (Info l j) h = absurd (false≢true h)
fact_same (SymbolConflict k i) (InfoConflict l) h = absurd (false≢true h)
fact_same (SymbolConflict k i) (Symbol l j c) h = absurd (false≢true h)

pub fact_itself : (f : Fact) → same_fact f f ≡ true
fact_itself (Info k i) =
    both_true (same_key k k) (same_information i i) (key_itself k) (information_itself i)
fact_itself (InfoConflict k) = key_itself k
fact_itself (Symbol k i b) =
    both_true (same_key k k) (same_symbol_id i i && bytes_eq b b) (key_itself k)
    (both_true (same_symbol_id i i) (bytes_eq b b) (symbol_id_itself i)
    ((bytes_eq-Decides b b).1 refl))
fact_itself (SymbolConflict k i) =
    both_true (same_key k k) (same_symbol_id i i) (key_itself k) (symbol_id_itself i)
