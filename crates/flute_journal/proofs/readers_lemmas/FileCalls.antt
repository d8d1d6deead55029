-- What the calls of a DatagramReader return.
use Rattle.std.proofs.Common.{rules}
use Rattle.flute_journal.proofs.Common.{Bool, Consumes, Err, Gives, Header, IfErr, IsDatagram}
use Rattle.flute_journal.proofs.Common.{IsFileFault, Items, List, Ok, Option, Parses, ReadFault}
use Rattle.flute_journal.proofs.Common.{ReaderState, ReadsFrom, ReadsNext, Result, Some}
use Rattle.flute_journal.proofs.Common.{StaysWithin, StopsReading, [], arith, bytes_eq, cut, drop}
use Rattle.flute_journal.proofs.Common.{false, file_framing, file_header, first_fault, is_open}
use Rattle.flute_journal.proofs.Common.{left_by, not, opening_fault, place_at, record_of, refl}
use Rattle.flute_journal.proofs.Common.{state_after, take, or_failed, true, ℕ, ◌++◌, ◌∷◌}
use Rattle.flute_journal.proofs.Common.{◌≡◌}
use Rattle.flute_journal.proofs.framing_lemmas.Framed.{ReadsWithin, reads_on, reads_first}
use Rattle.flute_journal.proofs.framing_lemmas.Framed.{gives}
use Rattle.flute_journal.proofs.framing_lemmas.Framings.{file_sound}
use Rattle.flute_journal.specs.declared.fault.ReadFault.TheVariants as faults

-- a header has no other faults
opening_faults : (a b c d : Bool) (f : ReadFault)
    → first_fault ((a, faults.Cut) ∷ (b, faults.Magic) ∷ (c, faults.Cut)
    ∷ (d, faults.Version) ∷ []) ≡ Some f → IsFileFault f
opening_faults x0 x1 x2 x3 x4 x5 = search rules

opening_stops : (o front : List ℕ) (f : ReadFault) → StopsReading 6 (opening_fault o) front f
    → IsFileFault f
opening_stops o front f s =
    let bs = front ++ [] in
    opening_faults (cut 4 bs).0 (not (bytes_eq (take 4 bs) (take 4 o))) (cut 6 bs).0
    (not (bytes_eq (take 2 (drop 4 bs)) (take 2 (drop 4 o)))) f (s.whole [] (λ e. refl))

left_faults : (f : ReadFault) → IsFileFault f → IsFileFault (left_by f)
left_faults faults.Cut h = tt
left_faults f h = h

pub opening_told : {T : Type 0} (o : List ℕ) (failed : Bool) (front : List ℕ)
    (r : Result T ReadFault) (P : List ℕ → Type 0) → Parses 6 (λ _. P front) (opening_fault o) front
    r → IfErr (or_failed failed r) IsFileFault
opening_told o true front (Ok x) P p = tt
opening_told o false front (Ok x) P p = tt
opening_told o true front (Err f) P p = left_faults f (opening_stops o front f p)
opening_told o false front (Err f) P p = opening_stops o front f p

pub reads_record : (limit count : ℕ) (u v : Option (List ℕ))
    (r : Result (Option (List ℕ)) ReadFault) → ReadsNext file_framing limit count u v r
    → StaysWithin record_of IsDatagram u v r
    → IfErr r IsFileFault → ReadsFrom file_framing tt limit (Items count) u v r
reads_record limit count u v r h w k = search (rules, reads_on)

pub reads_file_first : {limit : ℕ} (u : Option (List ℕ)) {v w : Option (List ℕ)}
    {r : Result (Option (List ℕ)) ReadFault} → Consumes u v file_header
    → ReadsWithin file_framing limit 0 v w r → ReadsFrom file_framing tt limit Header u w r
reads_file_first u {r = r} took h = reads_first file_sound tt u r took h

-- what a reader gives from a state that is known by an equation
pub gives_of_file_at : (limit : ℕ) {count : ℕ} {at old new : ReaderState ℕ} (u : Option (List ℕ))
    {v w : Option (List ℕ)} {r s : Result (Option (List ℕ)) ReadFault} → old ≡ at → count ≡ place_at
    file_framing tt at → r ≡ s → v ≡ w → new ≡ state_after file_framing count r →
    (is_open at ≡ true) × ReadsFrom file_framing tt limit at u w s → Gives file_framing limit old
    new u v r
gives_of_file_at limit u is counted gave left behind h = grind (arith, gives)

-- what a reader of datagrams gives, of the record that it read
pub ruleset gives_next = (gives_of_file_at, reads_record)
