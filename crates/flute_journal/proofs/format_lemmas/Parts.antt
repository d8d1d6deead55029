-- Spelled bytes pass the checks of specs/Faults, part by part.
use Rattle.std.proofs.lemmas.Grind.{common_steps}
use Rattle.std.proofs.Common.{rules}
use Rattle.flute_journal.proofs.Common.{Address, AllByRecursion, Before, Bool, Check, Fact, File}
use Rattle.flute_journal.proofs.Common.{HasRoom, Instance, IsBody, IsByte, IsFact, IsFactIn, IsId}
use Rattle.flute_journal.proofs.Common.{IsKey, IsObjectName, IsWithin, Key, Kind, List}
use Rattle.flute_journal.proofs.Common.{None, ObjectName, Option, Some, Symbol, SymbolId}
use Rattle.flute_journal.proofs.Common.{SymbolIs, Version, [], ap, append_assoc, arith, big_endian}
use Rattle.flute_journal.proofs.Common.{body, body_fault, byte_of, bytes_checks, bytes_eq}
use Rattle.flute_journal.proofs.Common.{bytes_fault, cut, cut_fault, drop, drop-drop, drop_at}
use Rattle.flute_journal.proofs.Common.{end_checks, entry_in, eq-eqb, eqb, false, first_fault}
use Rattle.flute_journal.proofs.Common.{head_size, header_fault, header_in, id_bytes, id_checks}
use Rattle.flute_journal.proofs.Common.{id_in, in_bytes, in_order, info_bytes, info_checks}
use Rattle.flute_journal.proofs.Common.{info_fault, info_in, is_after, is_key, is_kind, is_name}
use Rattle.flute_journal.proofs.Common.{is_object, key_bytes, key_in, fact_key}
use Rattle.flute_journal.proofs.Common.{key_size, le-leb, length, length-append}
use Rattle.flute_journal.proofs.Common.{length-bytes_high_first, length-drop, length-take}
use Rattle.flute_journal.proofs.Common.{length-take-le, lt-leb, lt-ltb, ltb, name_bytes}
use Rattle.flute_journal.proofs.Common.{named_in, ne_eqb, next_fault, not, number_at, object_bytes}
use Rattle.flute_journal.proofs.Common.{object_in, refl, rest_bytes, rest_checks, rest_fault}
use Rattle.flute_journal.proofs.Common.{sender_bytes, sender_size, slice_get, spelling, suc, sym}
use Rattle.flute_journal.proofs.Common.{symbol_address, take, take-append-drop, take_all, take_at}
use Rattle.flute_journal.proofs.Common.{true, version_fault, version_in, zero, ℕ}
use Rattle.flute_journal.proofs.Common.{◌++◌, ◌<◌, ◌^◌, ◌∙◌, ◌∷◌, ◌≡◌, ◌≤◌}
use Rattle.flute_journal.proofs.Numbers.{number-in_bytes, in_bytes-injective, spelled, octets-take}
use Rattle.flute_journal.proofs.Numbers.{octets-drop, spelled_pair}
use Rattle.flute_journal.proofs.format_lemmas.Entries.{key-injective, id-injective, make_id}
use Rattle.flute_journal.proofs.format_lemmas.Entries.{make_key}
use Rattle.flute_journal.specs.declared.format.Kind.TheVariants as kinds
use Rattle.flute_journal.specs.declared.fault.ReadFault.TheVariants as faults

pub first-pass : (c : Check) (cs : List Check) → c.0 ≡ false → first_fault (c ∷ cs) ≡ first_fault cs
first-pass c cs e = rw e refl

pub first-stop : (c : Check) (cs : List Check) → c.0 ≡ true → first_fault (c ∷ cs) ≡ Some c.1
first-stop c cs e = rw e refl

pub cut-passes : (n : ℕ) (front rest : List ℕ) → n ≤ length front
    → (cut n (front ++ rest)).0 ≡ false
cut-passes n front rest le = grind (arith, common_steps)

name_read : (a s : ℕ) (o : ObjectName) → s < 2 ^ 48 → IsObjectName o
    → (named_in a (name_bytes (make_key a s o)) ≡ make_key a s o)
    × (is_name (name_bytes (make_key a s o)) ≡ true)
name_read a s (Instance n) lt p = grind (arith, number-in_bytes, make_key, lt-ltb)
name_read a s (File n) lt p = grind (arith, number-in_bytes, make_key, lt-ltb)

key_read : (v : Version) (k : Key) → IsKey k → HasRoom v k.session
    → (key_in v (key_bytes v k) ≡ k) × (is_key v (key_bytes v k) ≡ true)
key_read v k p r =
    let long = length-bytes_high_first (sender_size v) k.session.sender in
    let back : drop (sender_size v) (key_bytes v k) ≡ name_bytes k =
    drop_at (sender_bytes v k.session) (name_bytes k) (sender_size v) long in
    let sender : number_at 0 (sender_size v) (key_bytes v k) ≡ k.session.sender =
    ap big_endian (take_at (sender_bytes v k.session) (name_bytes k) (sender_size v) long)
    ∙ number-in_bytes (sender_size v) k.session.sender r in
    let name = name_read k.session.sender k.session.tsi k.object p.0.1 p.1 in
    ((λ i. named_in (sender i) (back i)) ∙ name.0, ap is_name back ∙ name.1)

length-name_bytes : (k : Key) → length (name_bytes k) ≡ 21
length-name_bytes k = grind (arith, length-append, length-bytes_high_first)

pub length-key_bytes : (v : Version) (k : Key) → length (key_bytes v k) ≡ key_size v
length-key_bytes v k = omega (
  arith,
  length-append (sender_bytes v k.session) (name_bytes k),
  length-bytes_high_first (sender_size v) k.session.sender,
  length-name_bytes k,
)

-- a key that was spelled passes, and what is read is the key
key_passes : (v : Version) (k : Key) (rest : List ℕ) (more : Key → List ℕ → List Check) → IsKey k →
    HasRoom v k.session → first_fault (cut (key_size v) (key_bytes v k ++ rest) ∷
    (not (is_key v (take (key_size v) (key_bytes v k ++ rest))), faults.Key) ∷ more
    (key_in v (take (key_size v) (key_bytes v k ++ rest)))
    (drop (key_size v) (key_bytes v k ++ rest))) ≡ first_fault (more k rest)
key_passes v k rest more p r =
    let n = key_size v in
    let bs = key_bytes v k ++ rest in
    let long = length-key_bytes v k in
    let read = key_read v k p r in
    first-pass (cut n bs)
    ((not (is_key v (take n bs)), faults.Key) ∷ more (key_in v (take n bs)) (drop n bs))
    (cut-passes n (key_bytes v k) rest (omega (arith, long))) ∙ ap
    (λ (x : List ℕ). first_fault ((not (is_key v x), faults.Key) ∷ more (key_in v x) (drop n bs)))
    (take_at (key_bytes v k) rest n long) ∙ ap (λ (x : List ℕ). first_fault
    ((not (is_key v (key_bytes v k)), faults.Key) ∷ more (key_in v (key_bytes v k)) x))
    (drop_at (key_bytes v k) rest n long) ∙ ap
    (λ (b : Bool). first_fault ((not b, faults.Key) ∷ more (key_in v (key_bytes v k)) rest)) read.1
    ∙ ap (λ (x : Key). first_fault (more x rest)) read.0

-- what passes is the spelling of what was read
object_spelled : (tag t : ℕ) (more : List ℕ) → tag ≡ t → length more ≡ 14
    → AllByRecursion IsByte more → is_object tag (big_endian (take 14 more)) ≡ true
    → object_bytes (object_in tag (big_endian (take 14 more))) ≡ t ∷ more
object_spelled zero t more is len oct e =
    cc (take_all 14 more (omega (arith, len)), spelled 14 more len oct, is)
object_spelled (suc zero) t more is len oct e =
    cc (take_all 14 more (omega (arith, len)), spelled 14 more len oct, is)
object_spelled (suc (suc tag)) t more is len oct e = grind (arith, ne_eqb)

back_spelled : (back : List ℕ) → length back ≡ 15 → AllByRecursion IsByte back → is_object
    (big_endian (take 1 back)) (big_endian (take 14 (drop 1 back))) ≡ true → object_bytes
    (object_in (big_endian (take 1 back)) (big_endian (take 14 (drop 1 back)))) ≡ back
back_spelled back len oct e = grind (arith, object_spelled)

name_spelled : (a : ℕ) (bs : List ℕ) → length bs ≡ 21 → AllByRecursion IsByte bs
    → is_name bs ≡ true → name_bytes (named_in a bs) ≡ bs
name_spelled a bs len oct e = search (rules, octets-take, back_spelled, octets-drop)

pub key_spelled : (v : Version) (bs : List ℕ) → length bs ≡ key_size v
    → AllByRecursion IsByte bs → is_key v bs ≡ true → key_bytes v (key_in v bs) ≡ bs
key_spelled v bs len oct e =
    let n = sender_size v in
    let sender = spelled n (take n bs) (length-take-le n bs (omega (arith, len)))
    (octets-take n bs oct) in
    let name = name_spelled (number_at 0 n bs) (drop n bs) (omega (arith, len, length-drop n bs))
    (octets-drop n bs oct) e in (λ i. sender i ++ name i) ∙ take-append-drop n bs

-- information

pub info_spelled : (bs : List ℕ) → length bs ≡ 12 → AllByRecursion IsByte bs
    → info_bytes (info_in bs) ≡ bs
info_spelled bs len oct =
    let back = drop 6 bs in
    let long : length back ≡ 6 = omega (arith, len, length-drop 6 bs) in
    let last : take 4 (drop 8 bs) ≡ drop 2 back = ap (take 4) (sym (drop-drop 2 6 bs)) ∙ take_all 4
    (drop 2 back) (omega (arith, long, length-drop 2 back)) in
    let pair = spelled_pair 2 4 back long (octets-drop 6 bs oct) in
    let front = spelled 6 (take 6 bs) (omega (arith, len, length-take 6 bs)) (octets-take 6 bs oct)
    in ap (λ (x : List ℕ). in_bytes 6 (big_endian (take 6 bs)) ++
    (in_bytes 2 (big_endian (take 2 back)) ++ in_bytes 4 (big_endian x))) last ∙ ap
    (λ (x : List ℕ). in_bytes 6 (big_endian (take 6 bs)) ++ x) pair ∙ ap (λ (x : List ℕ). x ++ back)
    front ∙ take-append-drop 6 bs

-- the checks pass up to what the information itself has
pub info_passes : (bs r : List ℕ) → length bs ≡ 12
    → first_fault (cut 12 (bs ++ r) ∷ info_checks (info_fault (info_in (take 12 (bs ++ r)))))
    ≡ first_fault (info_checks (info_fault (info_in bs)))
info_passes bs r len = search rules

-- the length of a symbol

pub length_passes : (bs r : List ℕ) → length bs ≡ 2 → 0 < big_endian bs
    → bytes_fault (bs ++ r) ≡ first_fault (cut (big_endian bs) r ∷ [])
length_passes bs r len some = first-pass (cut 2 (bs ++ r)) ((
  eqb (big_endian (take 2 (bs ++ r))) 0,
  faults.EmptySymbol,
) ∷ cut (big_endian (take 2 (bs ++ r))) (drop 2 (bs ++ r)) ∷ [])
    (cut-passes 2 bs r (omega (arith, len))) ∙ ap (λ (x : List ℕ). first_fault
    ((eqb (big_endian x) 0, faults.EmptySymbol) ∷ cut (big_endian x) (drop 2 (bs ++ r)) ∷ []))
    (take_at bs r 2 len) ∙ ap (λ (x : List ℕ). first_fault
    ((eqb (big_endian bs) 0, faults.EmptySymbol) ∷ cut (big_endian bs) x ∷ [])) (drop_at bs r 2 len)
    ∙ first-pass (eqb (big_endian bs) 0, faults.EmptySymbol) (cut (big_endian bs) r ∷ [])
    (ne_eqb _ _ (λ h. omega (arith, h, some)))

pub length_none : (bs r : List ℕ) → length bs ≡ 2 → big_endian bs ≡ 0
    → bytes_fault (bs ++ r) ≡ Some faults.EmptySymbol
length_none bs r len none = first-pass (cut 2 (bs ++ r)) ((
  eqb (big_endian (take 2 (bs ++ r))) 0,
  faults.EmptySymbol,
) ∷ cut (big_endian (take 2 (bs ++ r))) (drop 2 (bs ++ r)) ∷ [])
    (cut-passes 2 bs r (omega (arith, len))) ∙ ap (λ (x : List ℕ). first_fault
    ((eqb (big_endian x) 0, faults.EmptySymbol) ∷ cut (big_endian x) (drop 2 (bs ++ r)) ∷ []))
    (take_at bs r 2 len) ∙ ap
    (λ n. first_fault ((eqb n 0, faults.EmptySymbol) ∷ cut n (drop 2 (bs ++ r)) ∷ [])) none

pub nothing_left : (x more : List ℕ) → length (x ++ more) ≤ length x → more ≡ []
nothing_left x0 x1 x2 = grind (arith, common_steps)

pub not_true : (b : Bool) → true ≡ not b → b ≡ false
not_true b e = grind (arith)

pub not_false : (b : Bool) → false ≡ not b → b ≡ true
not_false b e = grind (arith)

-- the header

abbrev opening_checks : List ℕ → (List ℕ → Bool) → List ℕ → List ℕ → List ℕ → List Check
opening_checks m is_known bytes front back = (not (bytes_eq front m), faults.Magic) ∷ cut 6 bytes ∷
    (not (is_known back), faults.Version) ∷ []

pub opening_comes : (m : List ℕ) (is_known : List ℕ → Bool) (bs v r : List ℕ) → length bs ≡ 4 →
    length v ≡ 2 → bytes_eq bs m ≡ true → version_fault m is_known ((bs ++ v) ++ r) ≡ first_fault
    ((not (is_known v), faults.Version) ∷ [])
opening_comes m is_known bs v r len len' e =
    let whole = (bs ++ v) ++ r in
    let six : length (bs ++ v) ≡ 6 = omega (arith, len, len', length-append bs v) in
    let grouped : whole ≡ bs ++ (v ++ r) = append_assoc bs v r in
    let front : take 4 whole ≡ bs = ap (take 4) grouped ∙ take_at bs (v ++ r) 4 len in
    let back : take 2 (drop 4 whole) ≡ v = ap (λ (x : List ℕ). take 2 (drop 4 x)) grouped ∙ ap
    (take 2) (drop_at bs (v ++ r) 4 len) ∙ take_at v r 2 len' in first-pass (cut 4 whole)
    (opening_checks m is_known whole (take 4 whole) (take 2 (drop 4 whole)))
    (cut-passes 4 (bs ++ v) r (omega (arith, six))) ∙ ap
    (λ (x : List ℕ). first_fault (opening_checks m is_known whole x (take 2 (drop 4 whole)))) front
    ∙ first-pass (not (bytes_eq bs m), faults.Magic)
    (cut 6 whole ∷ (not (is_known (take 2 (drop 4 whole))), faults.Version) ∷ []) (ap not e) ∙
    first-pass (cut 6 whole) ((not (is_known (take 2 (drop 4 whole))), faults.Version) ∷ [])
    (cut-passes 6 (bs ++ v) r (omega (arith, six))) ∙ ap
    (λ (x : List ℕ). first_fault ((not (is_known x), faults.Version) ∷ [])) back

pub version_wrong : (m : List ℕ) (is_known : List ℕ → Bool) (bs : List ℕ) {v : List ℕ}
    (r : List ℕ) → length bs ≡ 4 → length v ≡ 2 → bytes_eq bs m ≡ true
    → is_known v ≡ false → version_fault m is_known ((bs ++ v) ++ r) ≡ Some faults.Version
version_wrong m is_known bs {v = v} r len len' e wrong = search (rules, opening_comes, first-stop)

pub header_passes : (v : Version) (r : List ℕ) → header_fault (header_in v ++ r) ≡ None
header_passes x0 x1 = search rules

-- the version that a header contains
pub version-told : (v : Version) (r : List ℕ) → version_in (header_in v ++ r) ≡ v
version-told x0 x1 = search rules

-- the end

pub end_comes : (count : ℕ) (bs r : List ℕ) → length bs ≡ 8 → first_fault
    (end_checks count (bs ++ r)) ≡ first_fault ((not (eqb (big_endian bs) count), faults.Count) ∷
    (ltb 8 (length (bs ++ r)), faults.Trailing) ∷ [])
end_comes count bs r len =
    first-pass (cut 8 (bs ++ r)) ((not (eqb (big_endian (take 8 (bs ++ r))) count), faults.Count)
    ∷ (ltb 8 (length (bs ++ r)), faults.Trailing) ∷ [])
    (cut-passes 8 bs r (omega (arith, len)))
    ∙ ap (λ (x : List ℕ). first_fault
    ((not (eqb (big_endian x) count), faults.Count)
    ∷ (ltb 8 (length (bs ++ r)), faults.Trailing) ∷ [])) (take_at bs r 8 len)

pub end_counts : (count : ℕ) (bs r : List ℕ) → length bs ≡ 8 → big_endian bs ≡ count → first_fault
    (end_checks count (bs ++ r)) ≡ first_fault ((ltb 8 (length (bs ++ r)), faults.Trailing) ∷ [])
end_counts count bs r len e = simp (end_comes, first-pass, eq-eqb)

-- an id

pub id_reads : (id : SymbolId) → IsId id → id_in (id_bytes id) ≡ id
id_reads id p = grind (arith, number-in_bytes, make_id)

-- the checks of an id are one check: the order of its address
pub id_comes : (last : Option Address) (key : Key) (id : SymbolId) (r : List ℕ) (more : List Check)
    → IsId id → first_fault (id_checks last key (id_bytes id ++ r) more) ≡ first_fault
    (in_order last (symbol_address key id) ∷ more)
id_comes last key id r more p = grind (arith, first-pass, cut-passes, take_at, id_reads)

pub order_passes : (last : Option Address) (a : Address) (more : List Check)
    → is_after last a ≡ true → first_fault (in_order last a ∷ more) ≡ first_fault more
order_passes last a more e = search rules

-- after an id in order, the fault is that of the bytes which follow it
pub symbol_comes : (last : Option Address) (key : Key) (id : SymbolId) (r : List ℕ) → IsId id
    → is_after last (symbol_address key id) ≡ true
    → rest_fault last kinds.Symbol key (id_bytes id ++ r) ≡ bytes_fault r
symbol_comes last key id r p e = id_comes last key id r (bytes_checks (drop 4 (id_bytes id ++ r))) p
    ∙ order_passes last (symbol_address key id) (bytes_checks (drop 4 (id_bytes id ++ r))) e ∙ ap
    (λ (x : List ℕ). first_fault (bytes_checks x)) (drop_at (id_bytes id) r 4 refl)

-- the fault of what follows the kind and the key of an entry

pub key_comes : (v : Version) (last : Option Address) (k : Kind) (key : Key) (r : List ℕ)
    → IsKey key → HasRoom v key.session
    → body_fault v last k (key_bytes v key ++ r) ≡ rest_fault last k key r
key_comes v last k key r p fits =
    key_passes v key r (λ x y. rest_checks last (byte_of k) x y) p fits

-- the fault of a symbol's bytes after the fixed part of its entry
pub symbol_cut : (v : Version) {last : Option Address} {k : Kind} {key : Key} {id : SymbolId}
    {n : ℕ} (r : List ℕ) → SymbolIs last k key id n → HasRoom v key.session → body_fault v last
    kinds.Symbol ((key_bytes v key ++ (id_bytes id ++ in_bytes 2 n)) ++ r) ≡ cut_fault n r
symbol_cut v {last = last} {key = key} {id = id} {n = n} r s fits =
    let size : big_endian (in_bytes 2 n) ≡ n = number-in_bytes 2 n (omega (arith, s.short)) in
    ap (body_fault v last kinds.Symbol)
    (append_assoc (key_bytes v key) (id_bytes id ++ in_bytes 2 n) r) ∙ key_comes v last kinds.Symbol
    key ((id_bytes id ++ in_bytes 2 n) ++ r) s.key_valid fits ∙ ap
    (rest_fault last kinds.Symbol key) (append_assoc (id_bytes id) (in_bytes 2 n) r) ∙ symbol_comes
    last key id (in_bytes 2 n ++ r) s.id_valid s.in_order ∙ length_passes (in_bytes 2 n) r refl
    (omega (arith, size, s.some)) ∙ ap (λ k. cut_fault k r) size

-- within the bound, the fault of an entry is that of what follows its kind
pub body_comes : (limit : ℕ) (b : Before) (k : Kind) (r : List ℕ) → b.count < limit
    → next_fault b limit (byte_of k ∷ r) ≡ body_fault b.version b.last k r
body_comes limit b k r few = grind (arith, first-pass, lt-leb)

pub entry_comes : (limit : ℕ) (b : Before) (k : Kind) (key : Key) (r : List ℕ) → b.count < limit →
    IsKey key → HasRoom b.version key.session → next_fault b limit
    ((byte_of k ∷ key_bytes b.version key) ++ r) ≡ rest_fault b.last k key r
entry_comes limit b k key r few p fits = search (rules, body_comes, key_comes)

-- Bytes with nothing after a whole value (specs/Input: IsWithin): they are too short for more.

pub within-short : {T : Type 0} (spelling : T → List ℕ) (IsValid : T → Type 0) (n : ℕ) (p : List ℕ)
    → ((x : T) → IsValid x → n ≤ length (spelling x)) → length p ≤ n → IsWithin spelling IsValid p
within-short spelling IsValid n p least few x more v e = grind (arith, nothing_left)

pub body_least : (v : Version) (k : Kind) (f : Fact) → IsBody v k f
    → head_size v k ≤ length (body v f)
body_least v k f h = grind (arith, length-key_bytes, length-append)

pub body_within-short : (v : Version) (k : Kind) (p : List ℕ) → length p ≤ head_size v k
    → IsWithin (body v) (IsBody v k) p
body_within-short v k p few = search (rules, within-short, body_least)

pub entry_least : (v : Version) (f : Fact) → IsFactIn v f → 22 ≤ length (entry_in v f)
entry_least v f h = omega (
  arith,
  length-key_bytes v (fact_key f),
  length-append
      (key_bytes v (fact_key f)) (rest_bytes f),
)

pub entry_within-short : (v : Version) (p : List ℕ) → length p ≤ 22
    → IsWithin (entry_in v) (IsFactIn v) p
entry_within-short v p few = search (rules, within-short, entry_least)

pub key_valid : (f : Fact) → IsFact f → IsKey (fact_key f)
key_valid f h = grind (arith)

pub entry_within : (v : Version) (k : Kind) (p : List ℕ) → IsWithin (body v) (IsBody v k) p
    → IsWithin (entry_in v) (IsFactIn v) (byte_of k ∷ p)
entry_within v k p h f more valid e = grind (arith)

-- no more bytes of a symbol than the fixed part of its entry says
pub symbol_within : (v : Version) {last : Option Address} {k : Kind} {key : Key} {id : SymbolId}
    {n : ℕ} (p : List ℕ) → SymbolIs last k key id n → HasRoom v key.session → length p ≤ n →
    IsWithin (body v) (IsBody v kinds.Symbol)
    ((key_bytes v key ++ (id_bytes id ++ in_bytes 2 n)) ++ p)
symbol_within v p s fits few (Symbol l j b) more h e = grind (
  arith,
  s.key_valid,
  s.id_valid,
  s.short,
  append_assoc,
  key-injective,
  id-injective,
  in_bytes-injective,
  nothing_left,
)
symbol_within v p s fits few f more h e = absurd (omega (arith, h.0))

-- the byte before an entry

pub one_byte : (bs : List ℕ) (b : ℕ) → length bs ≤ 1 → Some b ≡ slice_get bs 0 → bs ≡ b ∷ []
one_byte [] b len e = absurd cc
one_byte (x ∷ []) b len e = let h : x ≡ b = cc in ap (λ y. y ∷ []) h
one_byte (x ∷ y ∷ bs) b len e = absurd (omega (arith, len))

pub kind_wrong : (b : Before) (limit byte : ℕ) (bs r : List ℕ) → bs ≡ byte ∷ [] → (byte ≡ 255 → ⊥) →
    is_kind byte ≡ false → next_fault b limit (bs ++ r) ≡ Some faults.Kind
kind_wrong b limit byte bs r is ne wrong = grind (arith, ne_eqb)

pub too_many : (b : Before) (limit : ℕ) (k : Kind) (bs r : List ℕ) → bs ≡ byte_of k ∷ []
    → limit ≤ b.count → next_fault b limit (bs ++ r) ≡ Some faults.TooMany
too_many b limit k bs r is many = grind (arith, first-stop, le-leb)
