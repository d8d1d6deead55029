-- The records of a datagram file (specs/Records, specs/FileFraming).
use Rattle.std.proofs.Common.{rules}
use Rattle.flute_journal.proofs.Common.{◌≡◌, ℕ, ◌^◌, ◌<◌, ◌≤◌, Bool}
use Rattle.flute_journal.proofs.Common.{leb, List}
use Rattle.flute_journal.proofs.Common.{[], ◌∷◌, ◌++◌, length, take, drop, Option, Some, None}
use Rattle.flute_journal.proofs.Common.{Result, Ok, sym, ap, ◌∙◌, append_assoc, arith, le-leb}
use Rattle.flute_journal.proofs.Common.{lt-leb, nil_from_length, take_at, drop_at, length-append}
use Rattle.flute_journal.proofs.Common.{IfSome, IsSettled, AllByRecursion, Consumes}
use Rattle.flute_journal.proofs.Common.{Consumes-trans, big_endian, ReadFault, in_bytes}
use Rattle.flute_journal.proofs.Common.{first_fault, cut, ReadsUpTo, IsFaultOf, IsFaultUpTo}
use Rattle.flute_journal.proofs.Common.{IsWithin, StaysWithin, or_failed, IsByte, cut_fault}
use Rattle.flute_journal.proofs.Common.{record_of, IsDatagram, file_framing, ReadsNext}
use Rattle.flute_journal.proofs.Common.{record_checks, record_fault, length-bytes_high_first}
use Rattle.flute_journal.proofs.format_lemmas.Parts.{first-pass, first-stop, cut-passes}
use Rattle.flute_journal.proofs.format_lemmas.Parts.{nothing_left, within-short}
use Rattle.flute_journal.proofs.Numbers.{in_bytes-injective}
use Rattle.flute_journal.proofs.framing_lemmas.ReadsUpTo.{asks_first, fault-behind, fault_up_to}
use Rattle.flute_journal.specs.declared.fault.ReadFault.TheVariants as faults
use Rattle.flute_journal.specs.{Input.{Advances}, FileFraming.{file_framing}, Lent.{TakesRecord}}

-- a byte follows as many records as there may be
pub too_many_records : (limit count : ℕ) (front r : List ℕ) → 0 < length front → limit ≤ count
    → record_fault limit count (front ++ r) ≡ Some faults.TooMany
too_many_records limit count [] r some le = absurd (omega (arith, some))
too_many_records limit count (b ∷ bs) r some le = grind (arith, first-stop, le-leb)

-- a record within the bound is cut within its bytes, or not at all
record_checked : (limit count : ℕ) (front r : List ℕ) → count < limit → length front ≡ 2
    → first_fault (record_checks limit count (front ++ r)) ≡ cut_fault (big_endian front) r
record_checked limit count front r few len =
    let whole = front ++ r in
    first-pass (leb limit count, faults.TooMany)
    (cut 2 whole ∷ cut (big_endian (take 2 whole)) (drop 2 whole) ∷ []) (lt-leb limit count few) ∙
    first-pass (cut 2 whole) (cut (big_endian (take 2 whole)) (drop 2 whole) ∷ [])
    (cut-passes 2 front r (omega (arith, len))) ∙ ap
    (λ (x : List ℕ). first_fault (cut (big_endian x) (drop 2 whole) ∷ [])) (take_at front r 2 len) ∙
    ap (λ (x : List ℕ). first_fault (cut (big_endian front) x ∷ [])) (drop_at front r 2 len)

pub record_comes : (limit count n : ℕ) (front r : List ℕ) → count < limit → length front ≡ 2
    → n ≡ big_endian front → record_fault limit count (front ++ r) ≡ cut_fault n r
record_comes limit count n [] r few len is = absurd (omega (arith, len))
record_comes limit count n (b ∷ bs) r few len is =
    record_checked limit count (b ∷ bs) r few len ∙ ap (λ k. cut_fault k r) (sym is)

-- a record within the bound has no fault but that it is cut

cuts_only : (a b : Bool)
    → IfSome (first_fault ((a, faults.Cut) ∷ (b, faults.Cut) ∷ [])) (λ f. f ≡ faults.Cut)
cuts_only x0 x1 = search rules

record_settled : (limit count : ℕ) → count < limit → IsSettled (record_fault limit count) []
record_settled x0 x1 x2 x3 = search rules

-- it was taken from where it was seen, or there was no memory for it
pub record_taken : (limit count : ℕ) (u v : Option (List ℕ))
    (r : Result (Option (List ℕ)) ReadFault) → count < limit → TakesRecord u v r
    → (r ≡ Ok None → ⊥) → ReadsNext file_framing limit count u v r
record_taken x0 x1 x2 x3 x4 x5 x6 x7 = search (rules, asks_first, record_settled)

-- the length of a record within the bound was read
pub record LengthRead (limit count n : ℕ) (u v : Option (List ℕ)) : Type 0 where
  pub front : List ℕ
  pub few : count < limit
  pub two : length front ≡ 2
  pub is : n ≡ big_endian front
  pub took : Consumes u v front

-- the bytes of a record could not be read
pub record_stops : {limit count n : ℕ} {u v : Option (List ℕ)} (w : Option (List ℕ))
    (f : ReadFault) → LengthRead limit count n u v → IsFaultOf (cut_fault n) v w f
    → IsFaultUpTo [] (record_fault limit count) u w f
record_stops {limit = limit} {count = count} {n = n} {u = u} {v = v} w f read h = search (
  rules,
  record_comes,
  fault_up_to,
  fault-behind,
)

-- What was read of a record has nothing after it (specs/Input: IsWithin).

record_within-short : (part : List ℕ) → length part ≤ 2 → IsWithin record_of IsDatagram part
record_within-short part few = within-short record_of IsDatagram 2 part (λ d v. omega
    (arith, length-append (in_bytes 2 (length d)) d, length-bytes_high_first 2 (length d))) few

-- no more bytes than the length of a record says
record_within : (n : ℕ) (front part : List ℕ) → in_bytes 2 n ≡ front → n < 2 ^ 16 → length part ≤ n
    → IsWithin record_of IsDatagram (front ++ part)
record_within n front part is small few d more v e =
    grind (arith, append_assoc, in_bytes-injective, nothing_left)

pub length_ends : {T : Type 0} (u v : Option (List ℕ)) (front : List ℕ) (r : Result T ReadFault)
    → Consumes u v front → length front ≤ 2 → StaysWithin record_of IsDatagram u v r
length_ends x0 x1 x2 x3 x4 x5 = search (rules, record_within-short)

pub record_ends : (n : ℕ) (u v w : Option (List ℕ)) {front : List ℕ}
    → in_bytes 2 n ≡ front → n < 2 ^ 16 → Consumes u v front → Advances v w n
    → (part : List ℕ) × Consumes u w part × IsWithin record_of IsDatagram part
record_ends n u v w {front = front} is small took a = search (rules, Consumes-trans, record_within)

-- a record was read whole
pub record_read : {n : ℕ} (u v w : Option (List ℕ)) {front : List ℕ} (d : List ℕ) → in_bytes 2 n ≡
    front → Consumes u v front → length d ≡ n → Consumes v w d → Consumes u w (record_of d)
record_read u v w d spells took size rest = grind (arith, Consumes-trans)

pub datagram_read : {n : ℕ} (d : List ℕ) → length d ≡ n → n < 2 ^ 16
    → AllByRecursion IsByte d → IsDatagram d
datagram_read d size small octs = search rules

-- no record: the end of the input, or a source that failed
pub no_record : (limit count : ℕ) (failed : Bool) (u v : Option (List ℕ)) (front : List ℕ)
    → ReadsUpTo u v 2 failed front → length front ≡ 0
    → ReadsNext file_framing limit count u v (or_failed failed (Ok None))
no_record limit count failed u v front a none = grind (arith, nil_from_length)

-- what was read of a record
pub ruleset record_reads = (length_ends, record_read, datagram_read)
