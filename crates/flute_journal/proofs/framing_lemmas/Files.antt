-- Bytes are the datagram file of one list of datagrams, or they stop at one fault.
use Rattle.std.proofs.Common.{rules}
use Rattle.flute_journal.proofs.Common.{length-bytes_high_first, same_Some, ◌≡◌, ℕ, ◌^◌}
use Rattle.flute_journal.proofs.Common.{◌<◌, ◌≤◌, List, [], ◌∷◌, ◌++◌, length, take, drop, Some}
use Rattle.flute_journal.proofs.Common.{None, refl, sym, ap, ◌∙◌, subst, append_assoc, arith}
use Rattle.flute_journal.proofs.Common.{flat_map, AllByRecursion, leb-false, ltb-false}
use Rattle.flute_journal.proofs.Common.{length-append, length-take-le, drop_at, take-append-drop}
use Rattle.flute_journal.proofs.Common.{append-nil, big_endian, ReadFault, in_bytes, opening_fault}
use Rattle.flute_journal.proofs.Common.{IsByte, file_header, record_of, IsDatagram, AreItems}
use Rattle.flute_journal.proofs.Common.{file_framing, IsFileOf, IsFileWithin, Stops, record_fault}
use Rattle.flute_journal.proofs.Common.{file_frame}
use Rattle.flute_journal.proofs.framing_lemmas.Sequences.{begins, IsStop, one_stop}
use Rattle.flute_journal.proofs.framing_lemmas.Sequences.{stop_at_bound, Passes, PassesWithin}
use Rattle.flute_journal.proofs.Each.{all_split}
use Rattle.flute_journal.proofs.format_lemmas.Entries.{counted-injective}
use Rattle.flute_journal.proofs.Numbers.{number-in_bytes, number-below, octets-take, octets-drop}
use Rattle.flute_journal.proofs.Numbers.{spelled}
use Rattle.flute_journal.proofs.format_lemmas.Parts.{first-pass, cut-passes}
use Rattle.flute_journal.proofs.framing_lemmas.Existence.{first-none}
use Rattle.flute_journal.proofs.framing_lemmas.Decisions.{Next, at_end, at_item}
use Rattle.flute_journal.proofs.framing_lemmas.Records.{record_comes, too_many_records}
use Rattle.flute_journal.specs.declared.fault.ReadFault.TheVariants as faults
use Rattle.flute_journal.specs.Framing.{StopsAfterItems, in_header, after_items}

-- what a record spells is read in one way, whatever follows it
pub record-injective : (d e x y : List ℕ) → IsDatagram d → IsDatagram e
    → record_of d ++ x ≡ record_of e ++ y → (d ≡ e) × (x ≡ y)
record-injective d e x y v w h = counted-injective d e x y v.short w.short h

pub not_nothing : (d x : List ℕ) → record_of d ++ x ≡ [] → ⊥
not_nothing d x e = cc

records-injective : (ds es : List (List ℕ)) → AllByRecursion IsDatagram ds
    → AllByRecursion IsDatagram es → flat_map record_of ds ≡ flat_map record_of es → ds ≡ es
records-injective [] [] v w e = refl
records-injective [] (d ∷ es) v w e = absurd (not_nothing d (flat_map record_of es) (sym e))
records-injective (d ∷ ds) [] v w e = absurd (not_nothing d (flat_map record_of ds) e)
records-injective (d ∷ ds) (c ∷ es) v w e =
    let p = record-injective d c (flat_map record_of ds) (flat_map record_of es) v.0 w.0 e in
    ap (λ (x : List ℕ). x ∷ ds) p.0 ∙ ap (λ (x : List (List ℕ)). c ∷ x)
    (records-injective ds es v.1 w.1 p.1)

pub one_reading : (bytes : List ℕ) (ds es : List (List ℕ)) → IsFileOf bytes ds → IsFileOf bytes es
    → ds ≡ es
one_reading bytes ds es f g = grind (arith, records-injective, drop_at)

-- a whole record within the bound is not at fault
pub record_passes : (limit count : ℕ) (d more : List ℕ) → IsDatagram d → count < limit
    → record_fault limit count (record_of d ++ more) ≡ None
record_passes limit count d more v few = search (
  rules,
  number-in_bytes,
  record_comes,
  first-pass,
  cut-passes,
)

-- Datagram files that begin like others, and the fault at which they stop.
behind_header : (x y : List ℕ) → file_header ++ x ≡ file_header ++ y → x ≡ y
behind_header x y e = ap (drop 6) e

grouped : (bytes : List ℕ) (ds : List (List ℕ)) (rest : List ℕ) → bytes ≡ file_header ++ flat_map
    record_of ds ++ rest → bytes ≡ file_header ++ (flat_map record_of ds ++ rest)
grouped bytes ds rest e = search rules

pub file_header_passes : (r : List ℕ) → opening_fault file_header (file_header ++ r) ≡ None
file_header_passes r = search rules

not_in_header : (bytes rest : List ℕ) (f : ReadFault) → bytes ≡ file_header ++ rest
    → opening_fault file_header bytes ≡ Some f → ⊥
not_in_header bytes rest f e h = search rules

pass : (limit : ℕ) (ds : List (List ℕ)) → AllByRecursion IsDatagram ds
    → PassesWithin record_of (λ l r. record_fault limit (length l) r) limit ds
pass limit ds v front x xs r e few = record_passes limit (length front) x r
    (all_split IsDatagram front (x ∷ xs) (subst (AllByRecursion IsDatagram) e v)).1.0 few

pass_all : (limit : ℕ) (ds : List (List ℕ)) → AreItems file_frame limit ds
    → Passes record_of (λ l r. record_fault limit (length l) r) ds
pass_all limit ds a front x xs r e = pass limit ds a.valid front x xs r e
    (omega (arith, a.few, ap length e, length-append front (x ∷ xs)))

record_stop : {bytes : List ℕ} {limit : ℕ} {ds : List (List ℕ)} {f : ReadFault}
    (s : StopsAfterItems file_framing bytes limit ds f)
    → IsStop record_of (λ l r. record_fault limit (length l) r) IsDatagram ds s.rest f
record_stop {limit = limit} {ds = ds} s = search (rules, pass_all)

pub file_stops_once : (bytes : List ℕ) (limit : ℕ) (ds es : List (List ℕ)) (f g : ReadFault) → Stops
    file_framing bytes limit ds f → Stops file_framing bytes limit es g → (ds ≡ es) × (f ≡ g)
file_stops_once bytes limit ds es f g (in_header a h) (in_header b k) =
    (a ∙ sym b, same_Some f g (sym h ∙ k))
file_stops_once bytes limit ds es f g (in_header a h) (after_items t) = absurd
    (not_in_header bytes (flat_map record_of es ++ t.rest) f (grouped bytes es t.rest t.whole) h)
file_stops_once bytes limit ds es f g (after_items s) (in_header b k) = absurd
    (not_in_header bytes (flat_map record_of ds ++ s.rest) g (grouped bytes ds s.rest s.whole) k)
file_stops_once bytes limit ds es f g (after_items s) (after_items t) =
    one_stop record_of IsDatagram record-injective (λ l r. record_fault limit (length l) r)
    (record_stop s) (record_stop t)
    (behind_header _ _ (sym (grouped bytes ds s.rest s.whole) ∙ grouped bytes es t.rest t.whole))

-- a datagram file stops only beyond the bound
pub file_stops_at_bound : (bytes : List ℕ) (limit : ℕ) (ds es : List (List ℕ)) (f : ReadFault)
    → IsFileOf bytes ds → Stops file_framing bytes limit es f
    → (f ≡ faults.TooMany) × (limit < length ds)
file_stops_at_bound bytes limit ds es f h (in_header none e) =
    absurd (not_in_header bytes (flat_map record_of ds) f h.bytes_are e)
file_stops_at_bound bytes limit ds es f h (after_items s) =
    let e = behind_header _ _ (sym (grouped bytes es s.rest s.whole) ∙ h.bytes_are) ∙ sym
    (append-nil (flat_map record_of ds)) in stop_at_bound record_of IsDatagram record-injective
    (λ l r. record_fault limit (length l) r) limit f (pass limit ds h.valid)
    (λ x y many. too_many_records limit (length es) (record_of x) y (omega arith) many) (begins
    record_of IsDatagram record-injective es ds s.rest [] (λ x y n. not_nothing x y (sym n))
    s.are_items.valid h.valid e) refl s.first

pub no_fault : (bytes : List ℕ) (limit : ℕ) (ds es : List (List ℕ)) (f : ReadFault)
    → IsFileWithin limit bytes ds → Stops file_framing bytes limit es f → ⊥
no_fault bytes limit ds es f w s =
    let file : IsFileOf bytes ds = search rules in
    let b = file_stops_at_bound bytes limit ds es f file s in
    omega (arith, b.1, w.are_items.few)

next_record : (limit count : ℕ) (rest : List ℕ) → AllByRecursion IsByte rest → count < limit
    → 2 ≤ length rest → big_endian (take 2 rest) ≤ length (drop 2 rest)
    → big_endian (take 2 rest) < 2 ^ 16 → Next file_framing limit count rest
next_record limit count rest oct few two whole small =
    let n = big_endian (take 2 rest) in
    let size : length (take n (drop 2 rest)) ≡ n = length-take-le n (drop 2 rest) whole in
    let field : in_bytes 2 n ≡ take 2 rest = spelled 2 (take 2 rest) (length-take-le 2 rest two)
    (octets-take 2 rest oct) in
    let all : rest ≡ record_of (take n (drop 2 rest)) ++ drop n (drop 2 rest) = grind
    (arith, take-append-drop, append_assoc) in
    let some : 0 < length (record_of (take n (drop 2 rest))) = omega (
      arith,
      length-append
          (in_bytes 2 (length (take n (drop 2 rest)))) (take n (drop 2 rest)),
      length-bytes_high_first 2
          (length (take n (drop 2 rest))),
    ) in at_item (take n (drop 2 rest)) (drop n (drop 2 rest)) all
    some (record {
      short = omega (arith, size, small);
      octets = octets-take n (drop 2 rest) (octets-drop 2 rest oct);
    }) refl few

-- after so many records, bytes without a fault are the end or begin with a record
pub record_found : (limit count : ℕ) (rest : List ℕ) → AllByRecursion IsByte rest
    → record_fault limit count rest ≡ None → Next file_framing limit count rest
record_found limit count [] oct e = at_end refl
record_found limit count (b ∷ bs) oct e =
    let rest : List ℕ = b ∷ bs in
    let a = first-none _ _ _ e in
    let c = first-none _ _ _ a.1 in
    let d = first-none _ _ _ c.1 in
    let two : 2 ≤ length rest = ltb-false (length rest) 2 c.0 in
    let len : length (take 2 rest) ≡ 2 = length-take-le 2 rest two in
    next_record limit count rest oct (leb-false limit count a.0) two
    (ltb-false (length (drop 2 rest)) (big_endian (take 2 rest)) d.0)
    (subst (λ k. big_endian (take 2 rest) < 256 ^ k) len
    (number-below (take 2 rest) (octets-take 2 rest oct)))
