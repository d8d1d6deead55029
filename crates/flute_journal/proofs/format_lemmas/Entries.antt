-- The bytes of entries determine the entries (specs/Format).
use Rattle.std.proofs.Common.{rules}
use Rattle.flute_journal.proofs.Common.{none-some, ◌≡◌, ℕ, ◌^◌, ◌<◌, List, [], ◌∷◌, ◌++◌, length}
use Rattle.flute_journal.proofs.Common.{take, drop, refl, sym, ap, ◌∙◌, append_assoc, arith}
use Rattle.flute_journal.proofs.Common.{cases_lt, le-leb, take_at, drop_at, Information, session}
use Rattle.flute_journal.proofs.Common.{ObjectName, Key, SymbolId, Fact, Info, InfoConflict, Symbol}
use Rattle.flute_journal.proofs.Common.{SymbolConflict, Version, One, Two, in_bytes, sender_bytes}
use Rattle.flute_journal.proofs.Common.{name_bytes, key_bytes, id_bytes, counted_bytes, header_in}
use Rattle.flute_journal.proofs.Common.{entry_in, AllByRecursion, IsKey, IsKeyIn, HasRoom, IsId}
use Rattle.flute_journal.proofs.Common.{IsInfo}
use Rattle.flute_journal.proofs.Common.{IsFact, IsFactIn}
use Rattle.flute_journal.specs.Format.{entry, sender_size}
use Rattle.flute_journal.proofs.Numbers.{in_bytes-injective}

abbrev pub make_key : ℕ → ℕ → ObjectName → Key
make_key a s o = record { session = session a s; object = o }

abbrev pub make_id : ℕ → ℕ → SymbolId
make_id n i = record { sbn = n; esi = i }

-- the bytes of a key after its sender determine the TSI and the object
name-injective : (a b : Key) (x y : List ℕ) → IsKey a → IsKey b → name_bytes a ++ x ≡ name_bytes b
    ++ y → (a.session.tsi ≡ b.session.tsi) × (a.object ≡ b.object) × (x ≡ y)
name-injective a b x y p q e = grind (arith, append_assoc, in_bytes-injective)

pub key-injective : (v : Version) (a b : Key) (x y : List ℕ) → IsKeyIn v a → IsKeyIn v b
    → key_bytes v a ++ x ≡ key_bytes v b ++ y → (a ≡ b) × (x ≡ y)
key-injective v a b x y p q e =
    let grouped = sym (append_assoc (sender_bytes v a.session) (name_bytes a) x) ∙ e ∙ append_assoc
    (sender_bytes v b.session) (name_bytes b) y in
    let sender = in_bytes-injective (sender_size v) a.session.sender b.session.sender
    (name_bytes a ++ x) (name_bytes b ++ y) p.1 q.1 grouped in
    let name = name-injective a b x y p.0 q.0 sender.1 in
    (λ i. record { session = session (sender.0 i) (name.0 i); object = name.1 i }, name.2)

pub id-injective : (a b : SymbolId) (x y : List ℕ) → IsId a → IsId b
    → id_bytes a ++ x ≡ id_bytes b ++ y → (a ≡ b) × (x ≡ y)
id-injective a b x y p q e = grind (arith, append_assoc, in_bytes-injective)

-- a length in 48 bits is a part of what makes information valid
pub length_fits : (i : Information) → IsInfo i → i.transfer_length < 2 ^ 48
length_fits i p = grind (arith, cases_lt, le-leb, none-some)

-- bytes with their number in front determine these bytes, whatever follows them
pub counted-injective : (a b x y : List ℕ) → length a < 2 ^ 16 → length b < 2 ^ 16
    → counted_bytes a ++ x ≡ counted_bytes b ++ y → (a ≡ b) × (x ≡ y)
counted-injective a b x y p q e =
    let grouped = sym (append_assoc (in_bytes 2 (length a)) a x) ∙ e ∙ append_assoc
    (in_bytes 2 (length b)) b y in
    let s = in_bytes-injective 2 (length a) (length b) (a ++ x) (b ++ y) (omega (arith, p))
    (omega (arith, q)) grouped in
    let front : a ≡ b = sym (take_at a x (length a) refl) ∙ ap (take (length a)) s.1 ∙ take_at b y
    (length a) (sym s.0) in
    let back : x ≡ y = sym (drop_at a x (length a) refl) ∙ ap (drop (length a)) s.1 ∙ drop_at b y
    (length a) (sym s.0) in (front, back)

pub entry_injective : (v : Version) (f g : Fact) (x y : List ℕ) → IsFactIn v f → IsFactIn v g
    → entry_in v f ++ x ≡ entry_in v g ++ y → (f ≡ g) × (x ≡ y)
entry_injective v f g x y p q e = grind (
  arith,
  append_assoc,
  key-injective,
  length_fits,
  in_bytes-injective,
  id-injective,
  counted-injective,
)

pub not_end : (v : Version) (f : Fact) (x y : List ℕ) → 255 ∷ x ≡ entry_in v f ++ y → ⊥
not_end v f x y e = grind (arith)

-- headers, whatever follows them
pub header-injective : (v w : Version) (x y : List ℕ) → header_in v ++ x ≡ header_in w ++ y
    → (v ≡ w) × (x ≡ y)
header-injective other another x y e = search rules

-- What is written has room for each sender.

pub room_two : (key : Key) → IsKey key → HasRoom Two key.session
unfolding sender_size
room_two key p = p.0.0

pub fact_two : (f : Fact) → IsFact f → IsFactIn Two f
fact_two (Info key info) p = (p, room_two key p.0)
fact_two (InfoConflict key) p = (p, room_two key p)
fact_two (Symbol key id bytes) p = (p, room_two key p.0)
fact_two (SymbolConflict key id) p = (p, room_two key p.0)

-- facts of the same entry are the same
pub same_entry : (f g : Fact) → IsFact f → IsFact g → entry f ≡ entry g → f ≡ g
same_entry f g p q e =
    (entry_injective Two f g [] [] (fact_two f p) (fact_two g q) (ap (λ l. l ++ []) e)).0

pub facts_two : (es : List Fact) → AllByRecursion IsFact es → AllByRecursion (IsFactIn Two) es
facts_two [] p = tt
facts_two (f ∷ es) p = (fact_two f p.0, facts_two es p.1)

pub facts_of : (v : Version) (es : List Fact) → AllByRecursion (IsFactIn v) es
    → AllByRecursion IsFact es
facts_of v [] p = tt
facts_of v (f ∷ es) p = (p.0.0, facts_of v es p.1)

-- In version 1 there is room for the sender 0 alone.

pub room_one : (key : Key) → HasRoom One key.session → key.session.sender ≡ 0
unfolding sender_size
room_one key p = omega (arith, p)

pub one_room : (key : Key) → key.session.sender ≡ 0 → HasRoom One key.session
unfolding sender_size
one_room key e = omega (arith, e)
