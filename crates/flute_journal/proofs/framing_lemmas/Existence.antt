-- Bytes without a fault are those of a journal; others stop at exactly one fault (specs/Framing).
use Rattle.std.proofs.lemmas.Grind.{common_steps}
use Rattle.std.proofs.Common.{rules}
use Rattle.flute_journal.proofs.Common.{Before}
use Rattle.flute_journal.proofs.Common.{Address, AllByRecursion, Bool, Fact, HasRoom, Info}
use Rattle.flute_journal.proofs.Common.{InfoConflict, InfoFault, IsByte, IsFact, IsId, IsKey}
use Rattle.flute_journal.proofs.Common.{IsKeyIn, IsRising, IsSymbol, IsTrue, Key, Kind, List, None}
use Rattle.flute_journal.proofs.Common.{One, Option, ReadFault, Some, journal_framing, Symbol}
use Rattle.flute_journal.proofs.Common.{SymbolConflict, Two, Version, [], address, ap, append_assoc}
use Rattle.flute_journal.proofs.Common.{arith, big_endian, body, body_fault, byte_of}
use Rattle.flute_journal.proofs.Common.{bytes_eq, bytes_eq-Decides, cases_Bool, drop}
use Rattle.flute_journal.proofs.Common.{end_checks, entry_checks, eqb, eqb-false, eqb-true, false}
use Rattle.flute_journal.proofs.Common.{first_fault, header_fault, header_in, id_bytes, id_in}
use Rattle.flute_journal.proofs.Common.{if◌then◌else◌, in_bytes, info_bytes, info_checks}
use Rattle.flute_journal.proofs.Common.{info_fault, info_in, inl, inr, is_after, is_key, is_kind}
use Rattle.flute_journal.proofs.Common.{is_name, is_version, key_bytes, key_in, fact_key, key_size}
use Rattle.flute_journal.proofs.Common.{kind, last_of, leb, leb-true, length}
use Rattle.flute_journal.proofs.Common.{length-drop, length-take, ltb, ltb-false}
use Rattle.flute_journal.proofs.Common.{ltb-true, named_in, next_fault, none-some, not}
use Rattle.flute_journal.proofs.Common.{number_at, opening_fault, pow-le-pow_right, refl}
use Rattle.flute_journal.proofs.Common.{rest_bytes, rest_fault, subst, suc, sym, counted_bytes}
use Rattle.flute_journal.proofs.Common.{take, take-append-drop, take_all, true, version_bytes}
use Rattle.flute_journal.proofs.Common.{version_fault, version_in, zero, ℕ, ◌&&◌, ◌++◌, ◌<◌, ◌^◌}
use Rattle.flute_journal.proofs.Common.{◌∙◌, ◌∷◌, ◌≡◌, ◌≤◌}
use Rattle.flute_journal.proofs.Numbers.{octets-drop, number-below, octets-take, spelled}
use Rattle.flute_journal.proofs.Numbers.{spelled_pair}
use Rattle.flute_journal.proofs.format_lemmas.Rising.{Rises, rising-rises, rises-rising}
use Rattle.flute_journal.proofs.framing_lemmas.Decisions.{Next, at_end, at_item}
use Rattle.flute_journal.proofs.format_lemmas.Parts.{key_spelled, info_spelled}
use Rattle.std.proofs.Common.{◌||◌}
use Rattle.flute_journal.specs.Format.{sender_size}
use Rattle.flute_journal.specs.declared.format.Kind.TheVariants as kinds

pub first-none : (b : Bool) (c : ReadFault) (x : Option ReadFault)
    → (if b then Some c else x) ≡ None → (b ≡ false) × (x ≡ None)
first-none b c x e = grind (arith, none-some)

pub is_true : (b : Bool) → not b ≡ false → b ≡ true
is_true b e = grind (arith)

both : (x y : Bool) → (x && y) ≡ true → (x ≡ true) × (y ≡ true)
both x y e = grind (arith)

or_second : (x y : Bool) → x ≡ false → (x || y) ≡ true → y ≡ true
or_second x y h e = grind (arith)

taken : (b : Bool) (x y : Option ReadFault) → b ≡ true → (if b then x else y) ≡ None → x ≡ None
taken b x y e h = grind (arith)

passed : (b : Bool) (x y : Option ReadFault) → b ≡ false → (if b then x else y) ≡ None → y ≡ None
passed b x y e h = grind (arith)

-- The ranges of what bytes say.

below : (n : ℕ) (bs : List ℕ) → length bs ≤ n → AllByRecursion IsByte bs → big_endian bs < 256 ^ n
below n bs few oct = grind (arith, pow-le-pow_right, number-below)

below_at : (offset n : ℕ) (bs : List ℕ) → AllByRecursion IsByte bs → number_at offset n bs < 256 ^ n
below_at offset n bs oct =
    below n (take n (drop offset bs)) (omega (arith, length-take n (drop offset bs)))
    (octets-take n (drop offset bs) (octets-drop offset bs oct))

name_valid : (sender : ℕ) (bs : List ℕ) → sender < 2 ^ 128 → AllByRecursion IsByte bs
    → is_name bs ≡ true → IsKey (named_in sender bs)
name_valid sender bs small oct e = grind (arith, below_at, both, eqb-true, ltb-true)

-- what an entry has fits for is an address
room_small : (v : Version) (n : ℕ) → n < 256 ^ sender_size v → n < 2 ^ 128
unfolding sender_size
room_small x0 x1 x2 = search rules

key_valid : (v : Version) (bs : List ℕ) → AllByRecursion IsByte bs → is_key v bs ≡ true
    → IsKeyIn v (key_in v bs)
key_valid v bs oct e =
    let n = sender_size v in
    let fits = below_at 0 n bs oct in (
      name_valid (number_at 0 n bs) (drop n bs) (room_small v (number_at 0 n bs) fits)
          (octets-drop n bs oct) e,
      fits,
    )

id_valid : (bs : List ℕ) → AllByRecursion IsByte bs → IsId (id_in bs)
id_valid bs oct = search rules

id_spelled : (bs : List ℕ) → length bs ≡ 4 → AllByRecursion IsByte bs → id_bytes (id_in bs) ≡ bs
id_spelled bs len oct =
    let whole : take 2 (drop 2 bs) ≡ drop 2 bs =
    take_all 2 (drop 2 bs) (omega (arith, len, length-drop 2 bs)) in
    ap (λ (x : List ℕ). in_bytes 2 (big_endian (take 2 bs)) ++ in_bytes 2 (big_endian x)) whole ∙
    spelled_pair 2 2 bs len oct

none_info : (o : Option InfoFault) → first_fault (info_checks o) ≡ None → o ≡ None
none_info o e = grind (arith, none-some)

-- What follows the key of an entry.

pub record RestFound (last : Option Address) (k : Kind) (key : Key) (bytes : List ℕ) : Type 0 where
  pub fact : Fact
  pub more : List ℕ
  pub kind_is : kind fact ≡ byte_of k
  pub key_is : fact_key fact ≡ key
  pub bytes_are : bytes ≡ rest_bytes fact ++ more
  pub valid : IsFact fact
  pub in_order : is_after last (address fact) ≡ true

split_at : (n : ℕ) (r x : List ℕ) → x ≡ take n r → r ≡ x ++ drop n r
split_at n r x e = grind (arith, common_steps)

front_length : (n : ℕ) (r : List ℕ) → ltb (length r) n ≡ false → length (take n r) ≡ n
front_length n r e = search rules

-- without a fault these bytes are those of a symbol
symbol_found : (t : List ℕ) → AllByRecursion IsByte t → ltb (length t) 2 ≡ false → eqb
    (big_endian (take 2 t)) 0 ≡ false → ltb (length (drop 2 t)) (big_endian (take 2 t)) ≡ false →
    (b : List ℕ) × (more : List ℕ) × IsSymbol b × (t ≡ counted_bytes b ++ more)
symbol_found t oct two some fits =
    let n = big_endian (take 2 t) in
    let b = take n (drop 2 t) in
    let more = drop n (drop 2 t) in
    let len : length b ≡ n = front_length n (drop 2 t) fits in
    let small : n < 256 ^ 2 = below 2 (take 2 t) (omega (arith, front_length 2 t two))
    (octets-take 2 t oct) in
    let front : in_bytes 2 (length b) ≡ take 2 t = ap (in_bytes 2) len ∙ spelled 2 (take 2 t)
    (front_length 2 t two) (octets-take 2 t oct) in (
      b,
      more,
      record {
        some = omega (arith, len, eqb-false n 0 some);
        short = omega (arith, len, small);
        octets = octets-take n (drop 2 t) (octets-drop 2 t oct);
      },
      split_at 2 t (in_bytes 2 (length b)) front ∙ ap (λ (x : List ℕ). in_bytes 2 (length b) ++ x)
          (sym (take-append-drop n (drop 2 t))) ∙ sym (append_assoc (in_bytes 2 (length b)) b more),
    )

-- without a fault they are those of the rest of an entry of this kind
pub rest_found : (last : Option Address) (k : Kind) (key : Key) (r : List ℕ) → IsKey key
    → AllByRecursion IsByte r → rest_fault last k key r ≡ None → RestFound last k key r
rest_found last kinds.Info key r kv oct e =
    let a = first-none _ _ _ e in
    let b = first-none _ _ _ a.1 in
    let front = take 12 r in
    let oct' = octets-take 12 r oct in
    record {
      fact = Info key (info_in front);
      more = drop 12 r;
      kind_is = refl;
      key_is = refl;
      bytes_are = split_at 12 r (info_bytes (info_in front))
          (info_spelled front (front_length 12 r b.0) oct');
      valid = (
        kv,
        (
          (omega (arith, below_at 6 2 front oct'), omega (arith, below_at 8 4 front oct')),
          none_info (info_fault (info_in front)) b.1,
        ),
      );
      in_order = is_true _ a.0;
    }
rest_found last kinds.InfoConflict key r kv oct e =
    let a = first-none _ _ _ e in
    record {
      fact = InfoConflict key;
      more = r;
      kind_is = refl;
      key_is = refl;
      bytes_are = refl;
      valid = kv;
      in_order = is_true _ a.0;
    }
rest_found last kinds.Symbol key r kv oct e =
    let a = first-none _ _ _ e in
    let o = first-none _ _ _ a.1 in
    let x = first-none _ _ _ o.1 in
    let y = first-none _ _ _ x.1 in
    let z = first-none _ _ _ y.1 in
    let front = take 4 r in
    let oct' = octets-take 4 r oct in
    let s = symbol_found (drop 4 r) (octets-drop 4 r oct) x.0 y.0 z.0 in
    record {
      fact = Symbol key (id_in front) s.0;
      more = s.1;
      kind_is = refl;
      key_is = refl;
      bytes_are =
          split_at 4 r (id_bytes (id_in front)) (id_spelled front (front_length 4 r a.0) oct')
          ∙ ap (λ (l : List ℕ). id_bytes (id_in front) ++ l) s.3
          ∙ sym (append_assoc (id_bytes (id_in front)) (counted_bytes s.0) s.1);
      valid = (kv, id_valid front oct', s.2);
      in_order = is_true _ o.0;
    }
rest_found last kinds.SymbolConflict key r kv oct e =
    let a = first-none _ _ _ e in
    let o = first-none _ _ _ a.1 in
    let front = take 4 r in
    let oct' = octets-take 4 r oct in
    record {
      fact = SymbolConflict key (id_in front);
      more = drop 4 r;
      kind_is = refl;
      key_is = refl;
      bytes_are =
          split_at 4 r (id_bytes (id_in front)) (id_spelled front (front_length 4 r a.0) oct');
      valid = (kv, id_valid front oct');
      in_order = is_true _ o.0;
    }

-- What follows some entries: the end, or an entry.

kind_at : (n : ℕ) → 1 ≤ n → n ≤ 4 → (k : Kind) × (n ≡ byte_of k)
kind_at zero p q = absurd (omega (arith, p))
kind_at (suc zero) p q = (kinds.Info, refl)
kind_at (suc (suc zero)) p q = (kinds.InfoConflict, refl)
kind_at (suc (suc (suc zero))) p q = (kinds.Symbol, refl)
kind_at (suc (suc (suc (suc zero)))) p q = (kinds.SymbolConflict, refl)
kind_at (suc (suc (suc (suc (suc n))))) p q = absurd (omega (arith, q))

-- without a fault these bytes are the end
end_found : (limit : ℕ) (before : Before) {b : ℕ} (rest : List ℕ) → b ≡ 255
    → AllByRecursion IsByte rest → first_fault (end_checks before.count rest) ≡ None
    → Next journal_framing limit before (b ∷ rest)
end_found limit before rest is oct e =
    let a = first-none _ _ _ e in
    let c = first-none _ _ _ a.1 in
    let d = first-none _ _ _ c.1 in
    let len : length rest ≡ 8 = omega
    (arith, ltb-false (length rest) 8 a.0, ltb-false 8 (length rest) d.0) in
    let whole : take 8 rest ≡ rest = take_all 8 rest (omega (arith, len)) in
    let told : big_endian rest ≡ before.count = search rules in
    at_end (ap (λ x. x ∷ rest) is ∙ ap (λ (x : List ℕ). 255 ∷ x)
    (sym (spelled 8 rest len oct) ∙ ap (in_bytes 8) told))

-- without a fault they are an entry of this kind
entry_found : (limit : ℕ) (before : Before) (k : Kind) (rest : List ℕ) → before.count < limit
    → AllByRecursion IsByte rest → body_fault before.version before.last k rest ≡ None
    → Next journal_framing limit before (byte_of k ∷ rest)
entry_found limit before k rest few oct e =
    let v = before.version in
    let n = key_size v in
    let a = first-none _ _ _ e in
    let b = first-none _ _ _ a.1 in
    let front = take n rest in
    let oct' = octets-take n rest oct in
    let key = key_in v front in
    let yes' : is_key v front ≡ true = is_true _ b.0 in
    let valid = key_valid v front oct' yes' in
    let r = rest_found before.last k key (drop n rest) valid.0 (octets-drop n rest oct) b.1 in
    let bytes : rest ≡ body v r.fact ++ r.more = split_at n rest (key_bytes v key)
    (key_spelled v front (front_length n rest a.0) oct' yes') ∙ ap
    (λ (x : List ℕ). key_bytes v key ++ x) r.bytes_are ∙ ap
    (λ (x : Key). key_bytes v x ++ (rest_bytes r.fact ++ r.more)) (sym r.key_is) ∙ sym
    (append_assoc (key_bytes v (fact_key r.fact)) (rest_bytes r.fact) r.more) in at_item r.fact
    r.more (ap (λ x. x ∷ rest) (sym r.kind_is) ∙ ap (λ (x : List ℕ). kind r.fact ∷ x) bytes)
    (omega arith) (r.valid, subst (λ (x : Key). HasRoom v x.session) (sym r.key_is) valid.1)
    r.in_order few

kind_found : (limit : ℕ) (before : Before) (b : ℕ) (rest : List ℕ) → is_kind b ≡ true →
    AllByRecursion IsByte rest → first_fault (entry_checks before limit b rest) ≡ None → next_fault
    before limit (b ∷ rest) ≡ None → Next journal_framing limit before (b ∷ rest)
kind_found limit before b rest e oct h whole =
    let p = both (leb 1 b) (leb b 4) e in
    let k = kind_at b (leb-true 1 b p.0) (leb-true b 4 p.1) in
    let few : before.count < limit = search rules in
    let none : body_fault before.version before.last k.0 rest ≡ None = search rules in
    subst (λ x. Next journal_framing limit before (x ∷ rest)) (sym k.1)
    (entry_found limit before k.0 rest few oct none)

-- without a fault, what follows some entries is the end or begins with an entry
pub next_found : (limit : ℕ) (before : Before) (bytes : List ℕ) → AllByRecursion IsByte bytes
    → next_fault before limit bytes ≡ None → Next journal_framing limit before bytes
next_found limit before [] oct e = absurd (none-some _ (sym e))
next_found limit before (b ∷ rest) oct e = elim (cases_Bool (eqb b 255)) [
  | inl t ↦ end_found limit before rest (eqb-true b 255 t) oct.1 (taken (eqb b 255) _ _ t e)
  | inr n ↦ let h = passed (eqb b 255) _ _ n e in elim (cases_Bool (is_kind b)) [
    | inl t ↦ kind_found limit before b rest t oct.1 (taken (is_kind b) _ _ t h) e
    | inr m ↦ absurd (none-some _ (sym (passed (is_kind b) _ _ m h)))
  ]
]

-- bytes without a fault in their first six begin with the magic number and a known version
magic_is : (m : List ℕ) (is_known : List ℕ → Bool) (y : List ℕ) → version_fault m is_known y ≡ None
    → (y ≡ m ++ (take 2 (drop 4 y) ++ drop 6 y)) × (is_known (take 2 (drop 4 y)) ≡ true)
magic_is m is_known y e = search rules

pub opening_is : (o y : List ℕ) → length o ≡ 6 → opening_fault o y ≡ None → y ≡ o ++ drop 6 y
opening_is o y len e =
    let m = magic_is (take 4 o) (λ version. bytes_eq version (take 2 (drop 4 o))) y e in
    let back : take 2 (drop 4 y) ≡ drop 4 o =
    (bytes_eq-Decides (take 2 (drop 4 y)) (take 2 (drop 4 o))).0 m.1 ∙ take_all 2 (drop 4 o)
    (omega (arith, len, length-drop 4 o)) in m.0 ∙ ap (λ (l : List ℕ). take 4 o ++ (l ++ drop 6 y))
    back ∙ sym (append_assoc (take 4 o) (drop 4 o) (drop 6 y)) ∙ ap (λ (l : List ℕ). l ++ drop 6 y)
    (take-append-drop 4 o)

version_is : (t : List ℕ) → is_version t ≡ true
    → t ≡ version_bytes (if bytes_eq t (version_bytes One) then One else Two)
version_is t e = search rules

-- a header without a fault is the header of the version that it contains
pub header_is : (y : List ℕ) → header_fault y ≡ None → y ≡ header_in (version_in y) ++ drop 6 y
header_is y e = search rules

pub rises_more : (b : Option Address) (es : List Fact) (f : Fact) → Rises b es
    → IsTrue (is_after (last_of b es) (address f)) → Rises b (es ++ f ∷ [])
rises_more b [] f p v = (v, tt)
rises_more b (e ∷ es) f p v = (p.0, rises_more (Some (address e)) es f p.1 v)

-- one entry more, in order and within the bound
pub rising_more : (es : List Fact) (f : Fact) → IsRising es
    → is_after (last_of None es) (address f) ≡ true → IsRising (es ++ f ∷ [])
rising_more es f r o = search (rules, rises-rising, rises_more, rising-rises)
