-- What the decoding functions return for plain bytes (src/format/decode.rt).
use Rattle.std.proofs.lemmas.Grind.{common_steps}
use Rattle.std.proofs.Common.{rules}
use Rattle.flute_journal.proofs.Common.{Address, AllByRecursion, Bool, Err, EntryHead, HeadIn}
use Rattle.flute_journal.proofs.Common.{HasRoom, Information, IsByte, IsId, IsKey, IsKeyIn}
use Rattle.flute_journal.proofs.Common.{IsSplitAt, Key, Kind, List, None, Ok, One, Option, Parses}
use Rattle.flute_journal.proofs.Common.{ReadFault, RestIs, Result, Some, StopsReading, SymbolId}
use Rattle.flute_journal.proofs.Common.{Two, Version, [], ap, append-nil, append_assoc, arith}
use Rattle.flute_journal.proofs.Common.{big_endian, body_fault, byte_of, bytes_checks, bytes_eq}
use Rattle.flute_journal.proofs.Common.{bytes_eq-Decides, bytes_fault, cut, drop}
use Rattle.flute_journal.proofs.Common.{err_from_is_err_and, false, head_bytes, head_size}
use Rattle.flute_journal.proofs.Common.{header_fault, header_in, id_bytes, if◌then◌else◌, in_bytes}
use Rattle.flute_journal.proofs.Common.{in_order, info_bytes, info_in, is_after, is_key, is_name}
use Rattle.flute_journal.proofs.Common.{is_version, key_bytes, key_in, key_size, kind, length}
use Rattle.flute_journal.proofs.Common.{length-append, length-drop, length-take-le, magic, named_in}
use Rattle.flute_journal.proofs.Common.{nil_from_length, not, number_at, rest_checks, rest_fault}
use Rattle.flute_journal.proofs.Common.{rest_size, subst, sym, symbol_address, take}
use Rattle.flute_journal.proofs.Common.{take-append-drop, take_all, take_at, or_failed, true}
use Rattle.flute_journal.proofs.Common.{version_bytes, version_fault, ℕ, ◌++◌, ◌-◌, ◌<◌, ◌^◌, ◌∙◌}
use Rattle.flute_journal.proofs.Common.{◌∷◌, ◌≡◌, ◌≤◌}
use Rattle.std.proofs.Math.Seq.{take-append_seam}
use Rattle.std.proofs.Common.{◌&&◌, ◌+◌, ◌==◌, get_or, is_eq, is_lt, refl}
use Rattle.std.specs.Ordering.{ordering_then}
use Rattle.std.specs.declared.cmp.Ordering.{Ordering}
use Rattle.flute_parts.specs.Order.{address_cmp, part_cmp, same_object}
use Rattle.flute_parts.specs.declared.address.Part.{Part}
use Rattle.std.specs.Prelude.{MatchOption}
use Rattle.std.specs.Option.{ok_or}
use Rattle.flute_journal.specs.Format.{sender_size}
use Rattle.flute_journal.specs.declared.format.Kind.TheVariants as kinds
use Rattle.flute_journal.specs.declared.fault.ReadFault.TheVariants as faults
use Rattle.flute_journal.proofs.Numbers.{number-below, octets, octets-take, spelled}
use Rattle.flute_journal.proofs.Numbers.{spelled_pair}
use Rattle.flute_journal.proofs.framing_lemmas.ReadsUpTo.{stops_here, stops_behind}
use Rattle.flute_journal.proofs.format_lemmas.Parts.{version_wrong, id_comes, key_comes, first-pass}
use Rattle.flute_journal.proofs.format_lemmas.Parts.{first-stop, cut-passes, key_spelled}
use Rattle.flute_journal.proofs.format_lemmas.Parts.{info_spelled, length_none, length-key_bytes}
use Rattle.flute_journal.proofs.format_lemmas.Parts.{symbol_comes}

pub joined : (bs a b : List ℕ) (n : ℕ) → IsSplitAt bs n a b → bs ≡ a ++ b
joined bs a b n s = grind (arith, common_steps)

pub front_octets : (bs a b : List ℕ) (n : ℕ) → IsSplitAt bs n a b → AllByRecursion IsByte bs
    → AllByRecursion IsByte a
front_octets bs a b n s h = search (rules, octets-take)

pub opening_version : (m : List ℕ) (is_known : List ℕ → Bool) (bs : List ℕ) {a b : List ℕ}
    → length bs ≤ 6 → IsSplitAt bs 4 a b → bytes_eq a m ≡ true → 2 ≤ length b
    → is_known b ≡ false → StopsReading 6 (version_fault m is_known) bs faults.Version
opening_version m is_known bs {a = a} {b = b} most s e some wrong =
    stops_here 6 (version_fault m is_known) bs faults.Version (λ h. cc) tt
    (λ r. ap (λ (x : List ℕ). version_fault m is_known (x ++ r)) (joined bs a b 4 s)
    ∙ version_wrong m is_known a r s.3 (omega (arith, most, some, s.4)) e wrong)

header_read : (bs a b : List ℕ) (v : Version) → IsSplitAt bs 4 a b → bytes_eq a magic ≡ true
    → b ≡ version_bytes v → header_in v ≡ bs
header_read bs a b v s e is = search rules

-- a header with the magic number, by what its version is
pub header_parsed : (bs : List ℕ) {a b : List ℕ} (o : Option Version) {r : Result Version ReadFault}
    → r ≡ ok_or o faults.Version → length bs ≤ 6 → IsSplitAt bs 4 a b → bytes_eq a magic ≡ true → 2
    ≤ length b → MatchOption o (is_version b ≡ false) (λ (v : Version). b ≡ version_bytes v) →
    Parses 6 (λ (v : Version). header_in v ≡ bs) header_fault bs r
header_parsed bs None is most s e some wrong =
    subst (Parses 6 (λ (v : Version). header_in v ≡ bs) header_fault bs) (sym is)
    (opening_version magic is_version bs most s e some wrong)
header_parsed bs {a = a} {b = b} (Some v) is most s e some h =
    subst (Parses 6 (λ (v : Version). header_in v ≡ bs) header_fault bs) (sym is)
    (header_read bs a b v s e h)

pub opening_read : (o bs : List ℕ) {a b : List ℕ} → length o ≡ 6 → length bs ≤ 6 → IsSplitAt bs 4 a
    b → bytes_eq a (take 4 o) ≡ true → 2 ≤ length b → bytes_eq b (take 2 (drop 4 o)) ≡ true → bs ≡ o
opening_read o bs {a = a} {b = b} len most s e some e' =
    let front : a ≡ take 4 o = (bytes_eq-Decides a (take 4 o)).0 e in
    let back : b ≡ take 2 (drop 4 o) = search rules in
    joined bs a b 4 s ∙ ap (λ (x : List ℕ). x ++ b) front ∙ ap (λ (x : List ℕ). take 4 o ++ x)
    (back ∙ take_all 2 (drop 4 o) (omega (arith, len, length-drop 4 o))) ∙ take-append-drop 4 o

-- the number at the end was read, and no bytes follow it
pub end_read : (bs : List ℕ) {a b : List ℕ} {n count : ℕ} → IsSplitAt bs 8 a b → AllByRecursion
    IsByte bs → length b ≡ 0 → n ≡ big_endian a → n ≡ count → bs ≡ in_bytes 8 count
end_read bs {a = a} {b = b} s h none is or_failed = search (rules, nil_from_length, front_octets)

pub id_read : (bs : List ℕ) {a b : List ℕ} {m n : ℕ} → IsSplitAt bs 4 a b → AllByRecursion IsByte bs
    → m ≡ big_endian (take 2 a) → n ≡ big_endian (take (length a - 2) (drop 2 a)) → bs ≡
    (in_bytes 2 m ++ in_bytes 2 n) ++ b
id_read bs s h first second =
    grind (arith, take_all, length-drop, spelled_pair, front_octets, joined)

pub length_empty : (bs : List ℕ) (n : ℕ) → length bs ≡ 2 → n ≡ big_endian bs → n ≡ 0
    → StopsReading 2 bytes_fault bs faults.EmptySymbol
length_empty bs n len is none = search (rules, stops_here, length_none)

pub length_read : (bs : List ℕ) (n : ℕ) → length bs ≡ 2 → AllByRecursion IsByte bs
    → n ≡ big_endian bs → in_bytes 2 n ≡ bs
length_read bs n len h is = ap (in_bytes 2) is ∙ spelled 2 bs len h

pub info_read : (info : Information) (bs : List ℕ) → length bs ≡ 12
    → AllByRecursion IsByte bs → info ≡ info_in bs → info_bytes info ≡ bs
info_read info bs len h is = ap info_bytes is ∙ info_spelled bs len h

-- the bytes of a sender

pub sender_none : (v : Version) (bs : List ℕ) → v ≡ One → length bs ≡ sender_size v
    → 0 ≡ big_endian bs
unfolding sender_size
sender_none v bs e len = search (rules, nil_from_length)

pub sender_long : (v : Version) (bs : List ℕ) → v ≡ Two → length bs ≡ sender_size v → length bs ≡ 16
unfolding sender_size
sender_long v bs e len = len ∙ ap sender_size e

-- the bytes of a key: those of its sender, whose number this is, and those of its name
pub record LieInKey (version : Version) (bytes front back : List ℕ) (sender : ℕ) : Type 0 where
  pub octets : AllByRecursion IsByte bytes
  pub long : length bytes ≡ key_size version
  pub size : ℕ
  pub size_is : size ≡ sender_size version
  pub front_is : front ≡ take size bytes
  pub back_is : back ≡ drop size bytes
  pub sender_is : sender ≡ big_endian front

pub split_in_key : {v : Version} (bytes : List ℕ) {size sender : ℕ} {front back : List ℕ} →
    ((i : ℕ) → get_or bytes i 0 < 256) → length bytes ≡ key_size v → size ≡ sender_size v → front ≡
    take size bytes → back ≡ drop size bytes → sender ≡ big_endian front → LieInKey v bytes front
    back sender
split_in_key bytes {size = size} fit long size_is front_is back_is sender_is = search (
  rules,
  octets,
)

-- a key is that of its sender and its name
pub key_found : {v : Version} {sender : ℕ} {bs front back : List ℕ} (r : Option Key) → LieInKey v bs
    front back sender → MatchOption r (is_name back ≡ false)
    (λ key. (is_name back ≡ true) × (key ≡ named_in sender back) × IsKey key) → MatchOption r
    (is_key v bs ≡ false) (λ key. (is_key v bs ≡ true) × (key ≡ key_in v bs) × IsKeyIn v key)
key_found {bs = bs} None l h = grind (arith, common_steps)
key_found {v = v} {sender = sender} {bs = bs} {front = front} {back = back} (Some key) l h = search
    (rules, number-below, octets-take, number_at)

-- an id that is not in order
pub id_wrong : (last : Option Address) (key : Key) (id : SymbolId) (bs b : List ℕ) → IsId id
    → bs ≡ id_bytes id ++ b → is_after last (symbol_address key id) ≡ false
    → StopsReading 6 (rest_fault last kinds.Symbol key) bs faults.Order
id_wrong last key id bs b p is wrong =
    let stop = λ (r : List ℕ).
    id_comes last key id r (bytes_checks (drop 4 (id_bytes id ++ r))) p
    ∙ first-stop (in_order last (symbol_address key id))
    (bytes_checks (drop 4 (id_bytes id ++ r))) (ap not wrong) in
    stops_here 6 (rest_fault last kinds.Symbol key) bs faults.Order (λ h. cc) tt
    (λ r. ap (λ (x : List ℕ). rest_fault last kinds.Symbol key (x ++ r)) is
    ∙ ap (rest_fault last kinds.Symbol key) (append_assoc (id_bytes id) b r)
    ∙ stop (b ++ r))

-- the bytes of a key that is none
pub key_wrong : (v : Version) (k : Kind) (last : Option Address) {n : ℕ} (bs : List ℕ)
    {a b : List ℕ} → n ≡ key_size v → IsSplitAt bs n a b → is_key v a ≡ false
    → StopsReading (head_size v k) (body_fault v last k) bs faults.Key
key_wrong v k last {n = n} bs {a = a} {b = b} size s wrong =
    let m = key_size v in
    let long : length a ≡ m = s.3 ∙ size in
    let stop = λ (r : List ℕ). first-pass (cut m (a ++ r)) ((
      not (is_key v (take m (a ++ r))),
      faults.Key,
    ) ∷ rest_checks last (byte_of k) (key_in v (take m (a ++ r))) (drop m (a ++ r)))
    (cut-passes m a r (omega (arith, long))) ∙ first-stop
    (not (is_key v (take m (a ++ r))), faults.Key)
    (rest_checks last (byte_of k) (key_in v (take m (a ++ r))) (drop m (a ++ r)))
    (ap (λ (x : List ℕ). not (is_key v x)) (take_at a r m long) ∙ ap not wrong) in stops_here
    (head_size v k) (body_fault v last k) bs faults.Key (λ h. cc) tt (λ r. ap
    (λ (x : List ℕ). body_fault v last k (x ++ r)) (joined bs a b n s) ∙ ap (body_fault v last k)
    (append_assoc a b r) ∙ stop (b ++ r))

-- parsing an entry's head: its key, and then what follows the key
behind_key : (v : Version) (k : Kind) (last : Option Address) (key : Key) (b : List ℕ)
    (r : Result EntryHead ReadFault) → IsKeyIn v key → Parses (rest_size k) (RestIs last k key b)
    (rest_fault last k key) b r → Parses (head_size v k)
    (λ x. HeadIn v last k x × (head_bytes v x ≡ key_bytes v key ++ b)) (body_fault v last k)
    (key_bytes v key ++ b) r
behind_key v k last key b (Ok x) p h = (
  (h.0, subst (λ (z : Key). HasRoom v z.session) (sym h.1) p.1),
  λ i. key_bytes v (h.1 i) ++ h.2 i,
)
behind_key v k last key b (Err f) p h = stops_behind (head_size v k) (body_fault v last k)
    (key_bytes v key) refl (omega (arith, length-key_bytes v key))
    (λ r e. key_comes v last k key r p.0 p.1 ∙ e) h

-- bytes begin with those of this key
pub record BeginsWithKey (version : Version) (bytes : List ℕ) (key : Key) (rest : List ℕ)
    : Type 0 where
  pub octets : AllByRecursion IsByte bytes
  pub size : ℕ
  pub size_is : size ≡ key_size version
  pub front : List ℕ
  pub split : IsSplitAt bytes size front rest
  pub found : (is_key version front ≡ true) × (key ≡ key_in version front)
      × IsKeyIn version key

pub split_behind_key : {v : Version} (bytes : List ℕ) {size : ℕ} {front rest : List ℕ} {key : Key} →
    ((i : ℕ) → get_or bytes i 0 < 256) → size ≡ sender_size v → IsSplitAt bytes (size + 21) front
    rest → (is_key v front ≡ true) × (key ≡ key_in v front) × IsKeyIn v key → BeginsWithKey v bytes
    key rest
split_behind_key bytes {size = size} {front = front} fit size_is split found = search (
  rules,
  octets,
)

-- the same for a kind that is known by an equation
pub parsed_at : {v : Version} {kind k : Kind} (last : Option Address) {key : Key} {bs b : List ℕ}
    (r : Result EntryHead ReadFault) → kind ≡ k → BeginsWithKey v bs key b → Parses (rest_size k)
    (RestIs last k key b) (rest_fault last k key) b r → Parses (head_size v kind)
    (λ x. HeadIn v last kind x × (head_bytes v x ≡ bs)) (body_fault v last kind) bs r
parsed_at {v = v} {kind = kind} {k = k} last {key = key} {bs = bs} {b = b} r e s p =
    let a = s.front in
    let n = s.size in
    let spelled_key : bs ≡ key_bytes v key ++ b = joined bs a b n s.split ∙ ap
    (λ (x : List ℕ). x ++ b) (sym
    (key_spelled v a (s.split.3 ∙ s.size_is) (front_octets bs a b n s.split s.octets) s.found.0) ∙
    ap (key_bytes v) (sym s.found.1)) in subst (λ z. Parses (head_size v z)
    (λ x. HeadIn v last z x × (head_bytes v x ≡ bs)) (body_fault v last z) bs r) (sym e) (subst (λ
    (l : List ℕ). Parses (head_size v k) (λ x. HeadIn v last k x × (head_bytes v x ≡ l))
    (body_fault v last k) l r) (sym spelled_key) (behind_key v k last key b r s.found.2 p))

-- a head in front of more bytes: the head with the first n of them is a prefix of the whole
pub in_front : (head body rest : List ℕ) (n : ℕ) → body ≡ take n rest
    → (length (head ++ body) ≤ length (head ++ rest))
    × (take (length (head ++ body)) (head ++ rest) ≡ head ++ body)
in_front head body rest n is =
    let whole : head ++ rest ≡ (head ++ body) ++ drop n rest = simp
    (is, append_assoc, take-append-drop) in (
      omega
          (arith, ap length whole, length-append (head ++ body) (drop n rest)),
      ap
          (take (length (head ++ body))) whole ∙ take-append_seam (head ++ body) (drop n rest),
    )

-- a symbol whose length is at fault
pub ruleset symbol_faults = (err_from_is_err_and, stops_behind, symbol_comes)

-- ---- a head that follows an entry of the same object

pub then-equal : (x o : Ordering) → is_eq x ≡ true → ordering_then x o ≡ o
then-equal other o h = search rules

-- the tests of the parts of two keys
abbrev pub same_parts : Key → Key → Bool
same_parts a b = ((a.session.sender == b.session.sender) && (a.session.tsi == b.session.tsi)) &&
    same_object a.object b.object

pub key-same : (a b : Key) → true ≡ same_parts a b → a ≡ b
key-same a b t = search rules

-- of two addresses of one object the parts are compared
pub same_object_cmp : (a b : Address) → true ≡ same_parts a.key b.key
    → part_cmp a.part b.part ≡ address_cmp a b
same_object_cmp a b t = search rules

pub same_object_after : (last : Address) (key : Key) (part : Part) → true ≡ same_parts last.key key
    → is_lt (part_cmp last.part part) ≡ is_after (Some last) (record { key = key; part = part })
same_object_after last key part t = search rules
