-- Spelled bytes have no fault, and where bytes stop that begin like a journal (specs/Faults).
use Rattle.std.proofs.Common.{rules}
use Rattle.flute_journal.proofs.Common.{Address, AllByRecursion, Before, Below, Fact, Info}
use Rattle.flute_journal.proofs.Common.{InfoConflict, Information, IsFact, IsFactIn, IsInfo}
use Rattle.flute_journal.proofs.Common.{IsRising, IsSymbol, JournalIn, Kind, List, None, Option}
use Rattle.flute_journal.proofs.Common.{ReadFault, Same, Same-append, Same-itself, Same-twice, Some}
use Rattle.flute_journal.proofs.Common.{Stops, journal_framing, Symbol, SymbolConflict, Version, []}
use Rattle.flute_journal.proofs.Common.{address, ap, append_assoc, arith, at_place, before}
use Rattle.flute_journal.proofs.Common.{after_items, byte_of, bytes_fault, end, entry_in, flat_map}
use Rattle.flute_journal.proofs.Common.{without_end_in, header_fault, header_in, id_bytes, in_bytes}
use Rattle.flute_journal.proofs.Common.{in_header, info_address, info_bytes, info_in, is_after}
use Rattle.flute_journal.proofs.Common.{key_bytes, fact_key, last_of, length, length-append}
use Rattle.flute_journal.proofs.Common.{next_fault, refl, rest_bytes, rest_fault}
use Rattle.flute_journal.proofs.Common.{same_Some, spelling_in, subst, sym, symbol_address}
use Rattle.flute_journal.proofs.Common.{counted_bytes, true, ℕ, ◌++◌, ◌<◌, ◌^◌, ◌∙◌, ◌∷◌, ◌≡◌, ◌≤◌}
use Rattle.flute_journal.proofs.framing_lemmas.Sequences.{IsStop, one_stop, stop_at_bound}
use Rattle.flute_journal.proofs.framing_lemmas.Sequences.{Passes, PassesWithin}
use Rattle.flute_journal.proofs.format_lemmas.Prefixes.{BeginsWithEntries, without_end-both}
use Rattle.flute_journal.proofs.format_lemmas.Prefixes.{journal_parts}
use Rattle.flute_journal.proofs.Each.{all_split}
use Rattle.flute_journal.proofs.Numbers.{number-in_bytes}
use Rattle.flute_journal.proofs.format_lemmas.Rising.{Rises, rising-rises}
use Rattle.flute_journal.proofs.format_lemmas.Entries.{length_fits, entry_injective, not_end}
use Rattle.flute_journal.proofs.format_lemmas.Entries.{header-injective}
use Rattle.flute_journal.proofs.format_lemmas.Parts.{id_comes, order_passes, symbol_comes}
use Rattle.flute_journal.proofs.format_lemmas.Parts.{entry_comes}
use Rattle.flute_journal.proofs.format_lemmas.Parts.{key_valid, first-pass}
use Rattle.flute_journal.proofs.format_lemmas.Parts.{cut-passes, info_passes, length_passes}
use Rattle.flute_journal.specs.declared.format.Kind.TheVariants as kinds
use Rattle.flute_journal.specs.declared.fault.ReadFault.TheVariants as faults

info_reads : (i : Information) → IsInfo i → info_in (info_bytes i) ≡ i
info_reads i p = grind (arith, number-in_bytes, length_fits)

symbol_none : (b r : List ℕ) → IsSymbol b → bytes_fault (counted_bytes b ++ r) ≡ None
symbol_none b r p = grind (arith, number-in_bytes, length_passes, first-pass, cut-passes)

abbrev kind_of : Fact → Kind
kind_of (Info key info) = kinds.Info
kind_of (InfoConflict key) = kinds.InfoConflict
kind_of (Symbol key id bytes) = kinds.Symbol
kind_of (SymbolConflict key id) = kinds.SymbolConflict

rest_passes : (last : Option Address) (f : Fact) (r : List ℕ) → IsFact f → is_after last (address f)
    ≡ true → rest_fault last (kind_of f) (fact_key f) (rest_bytes f ++ r) ≡ None
rest_passes last (Info key info) r p e = grind (arith, order_passes, info_passes, info_reads)
rest_passes last (InfoConflict key) r p e = order_passes last (info_address key) [] e
rest_passes last (Symbol key id b) r p e = cc (
  append_assoc (id_bytes id) (counted_bytes b) r,
  symbol_comes last key id (counted_bytes b ++ r) p.1 e,
  symbol_none b r p.2,
)
rest_passes last (SymbolConflict key id) r p e =
    cc (id_comes last key id r [] p.1, order_passes last (symbol_address key id) [] e)

entry_split : (v : Version) (f : Fact) (r : List ℕ)
    → entry_in v f ++ r ≡ (byte_of (kind_of f) ∷ key_bytes v (fact_key f)) ++ (rest_bytes f ++ r)
entry_split v f r = grind (arith, append_assoc)

-- an entry in order and within the bound has no fault
pub entry-passes : (limit : ℕ) (b : Before) (f : Fact) (r : List ℕ) → IsFactIn b.version f
    → b.count < limit → is_after b.last (address f) ≡ true
    → next_fault b limit (entry_in b.version f ++ r) ≡ None
entry-passes limit b f r p few e = cc (
  entry_split b.version f r,
  entry_comes limit b (kind_of f)
      (fact_key f) (rest_bytes f ++ r) few (key_valid f p.0) p.1,
  rest_passes b.last f r p.0 e,
)

pub entry-too_many : (limit : ℕ) (b : Before) (v : Version) (f : Fact) (r : List ℕ)
    → limit ≤ b.count → next_fault b limit (entry_in v f ++ r) ≡ Some faults.TooMany
entry-too_many limit b v f r many = search rules

pub end-passes : (limit count : ℕ) (v : Version) (last : Option Address) → count < 2 ^ 64
    → next_fault (at_place v count last) limit (end count) ≡ None
end-passes limit count v last small = search rules

rises_next : (b : Option Address) (fs : List Fact) (g : Fact) (gs : List Fact)
    → Rises b (fs ++ g ∷ gs) → is_after (last_of b fs) (address g) ≡ true
rises_next b [] g gs h = h.0
rises_next b (f ∷ fs) g gs h = rises_next (Some (address f)) fs g gs h.1

-- entries in order and within the bound have no fault
pass : (v : Version) (limit : ℕ) (es : List Fact) → AllByRecursion (IsFactIn v) es → IsRising es
    → PassesWithin (entry_in v) (λ l r. next_fault (before v l) limit r) limit es
pass v limit es p q front x xs r e few =
    let valid = all_split (IsFactIn v) front (x ∷ xs) (subst (AllByRecursion (IsFactIn v)) e p) in
    entry-passes limit (before v front) x r valid.1.0 few
    (rises_next None front x xs (rising-rises (front ++ x ∷ xs) (subst IsRising e q)))

pass_all : (v : Version) (limit : ℕ) (es : List Fact) → AllByRecursion (IsFactIn v) es → IsRising es
    → length es ≤ limit → Passes (entry_in v) (λ l r. next_fault (before v l) limit r) es
pass_all v limit es p q few front x xs r e = pass v limit es p q front x xs r e
    (omega (arith, few, ap length e, length-append front (x ∷ xs)))

-- bytes that begin with a header are not at fault there
pub not_in_header : (v : Version) (bytes : List ℕ) (es : List Fact) (rest : List ℕ) (f : ReadFault)
    → bytes ≡ without_end_in v es ++ rest → header_fault bytes ≡ Some f → ⊥
not_in_header v bytes es rest f e h = search rules

-- a journal's bytes stop only with more entries than the bound
pub beyond : (v : Version) {limit : ℕ} (es : List Fact) {fs : List Fact} {bytes : List ℕ}
    {f : ReadFault} → AllByRecursion (IsFactIn v) es → IsRising es → length es < 2 ^ 64
    → bytes ≡ spelling_in v es → Stops journal_framing bytes limit fs f
    → (f ≡ faults.TooMany) × (limit < length es)
beyond v es {bytes = bytes} {f = f} p q small e (in_header none h) =
    absurd (not_in_header v bytes es (end (length es)) f e h)
beyond v {limit = limit} es {fs = fs} {bytes = bytes} {f = f} p q small e (after_items s) =
    let w = s.are_items.told in
    let n = length es in
    let begun : BeginsWithEntries w fs s.rest bytes = search rules in
    let whole : BeginsWithEntries v es (end n) bytes = record { valid = p; bytes_are = e } in
    let b = without_end-both begun whole (λ x y. not_end w x (in_bytes 8 n) y) in
    stop_at_bound (entry_in w) (IsFactIn w) (entry_injective w)
    (λ l r. next_fault (before w l) limit r) limit f
    (pass w limit es (subst (λ (z : Version). AllByRecursion (IsFactIn z) es) (sym b.0) p) q)
    (λ x y many. entry-too_many limit (before w fs) w x y many) b.1
    (end-passes limit n w (last_of None es) small) s.first

pub Below-more : (F G : List Fact) → Below F (F ++ G)
Below-more F G = subst (λ (l : List Fact). Same l (F ++ G)) (append_assoc F F G)
    (Same-append (F ++ F) F G G (Same-twice F) (Same-itself G))

-- a journal that begins with these entries contains their facts
pub without_end-below : (v w : Version) {bytes : List ℕ} (F es : List Fact) (rest : List ℕ)
    → JournalIn v bytes F → AllByRecursion (IsFactIn w) es → bytes ≡ without_end_in w es ++ rest
    → Below es F
without_end-below v w {bytes = bytes} F es rest journal p e =
    let j = journal_parts v bytes F journal in
    let all = j.entries in
    let begun : BeginsWithEntries w es rest bytes = record { valid = p; bytes_are = e } in
    let whole : BeginsWithEntries v all (end (length all)) bytes =
    record { valid = j.valid; bytes_are = j.bytes_are } in
    let b = without_end-both begun whole (λ x y. not_end w x (in_bytes 8 (length all)) y) in
    let low : Below es all = subst (Below es) (sym b.1.items) (Below-more es b.1.more) in
    let moved = Same-append es es F all (record { each = λ a. refl }) j.collects.same in
    record { each = λ a. moved.each a ∙ low.each a ∙ sym (j.collects.same.each a) }

-- the entries before a fault, and the fault, are determined by the bytes
pub stops_one : (bytes : List ℕ) (limit : ℕ) (es fs : List Fact) (f g : ReadFault) → Stops
    journal_framing bytes limit es f → Stops journal_framing bytes limit fs g → (es ≡ fs) × (f ≡ g)
stops_one bytes limit es fs f g (in_header a h) (in_header b k) =
    (a ∙ sym b, same_Some f g (sym h ∙ k))
stops_one bytes limit es fs f g (in_header a h) (after_items s) =
    absurd (not_in_header s.are_items.told bytes fs s.rest f s.whole h)
stops_one bytes limit es fs f g (after_items s) (in_header b k) =
    absurd (not_in_header s.are_items.told bytes es s.rest g s.whole k)
stops_one bytes limit es fs f g (after_items s) (after_items t) =
    let v = s.are_items.told in
    let w = t.are_items.told in
    let h = header-injective v w (flat_map (entry_in v) es ++ s.rest)
    (flat_map (entry_in w) fs ++ t.rest) (sym
    (append_assoc (header_in v) (flat_map (entry_in v) es) s.rest) ∙ sym s.whole ∙ t.whole ∙
    append_assoc (header_in w) (flat_map (entry_in w) fs) t.rest) in
    let valid = subst (λ (z : Version). AllByRecursion (IsFactIn z) fs) (sym h.0) t.are_items.valid
    in
    let fault : List Fact → List ℕ → Option ReadFault = λ l r. next_fault (before v l) limit r in
    let first : IsStop (entry_in v) fault (IsFactIn v) es s.rest f = record {
      passes = pass_all v limit es s.are_items.valid s.are_items.in_order s.are_items.few;
      valid = s.are_items.valid;
      stops = s.first;
    } in
    let second : IsStop (entry_in v) fault (IsFactIn v) fs t.rest g = record {
      passes = pass_all v limit fs valid t.are_items.in_order t.are_items.few;
      valid = valid;
      stops = subst (λ (z : Version). next_fault (before z fs) limit t.rest ≡ Some g) (sym h.0)
          t.first;
    } in one_stop (entry_in v) (IsFactIn v) (entry_injective v) fault first second (subst
    (λ (z : Version). flat_map (entry_in v) es ++ s.rest ≡ flat_map (entry_in z) fs ++ t.rest)
    (sym h.0) h.1)
