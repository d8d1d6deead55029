-- A journal that is read entry by entry: Sofar of journals, and what was read (specs/Whole).
use Rattle.std.proofs.Common.{rules}
use Rattle.flute_journal.proofs.Common.{Address, AllByRecursion, AreItems, Consumes, Consumes-trans}
use Rattle.flute_journal.proofs.Common.{EndsAfter, Fact, GivesFault, IsFactIn, IsFaultUpTo, IsPart}
use Rattle.flute_journal.proofs.Common.{IsRising, List, None, Option, ReadFault, ReaderState}
use Rattle.flute_journal.proofs.Common.{Before, ReadsEntries, ReadsPart, Some, Sofar, StopsAfter}
use Rattle.flute_journal.proofs.Common.{Version, [], ap, append-nil, arith, end}
use Rattle.flute_journal.proofs.Common.{end_bytes, entry_in, fault_from, in_item}
use Rattle.flute_journal.proofs.Common.{in_opening, inl, inr, journal_framing, last_of, length}
use Rattle.flute_journal.proofs.Common.{nil_from_length, none-some, read_of, refl}
use Rattle.flute_journal.proofs.Common.{spelling_in, state_at, subst, sym, without_end_in, ℕ, ◌++◌}
use Rattle.flute_journal.proofs.Common.{◌∙◌, ◌∷◌, ◌≡◌, journal_frame}
use Rattle.flute_journal.proofs.framing_lemmas.SoFar.{FaultAfter, Side, found_now, read_some}
use Rattle.flute_journal.proofs.framing_lemmas.SoFar.{stops_at, stops_by}
use Rattle.flute_journal.proofs.framing_lemmas.Framings.{journal_sound}
use Rattle.flute_journal.proofs.format_lemmas.Parts.{entry_within-short}
use Rattle.flute_journal.proofs.Each.{all_split}
use Rattle.flute_journal.proofs.format_lemmas.Prefixes.{without_end_in-snoc, within_entry}
use Rattle.flute_journal.proofs.format_lemmas.Prefixes.{within_end, within_nil}
use Rattle.flute_journal.proofs.format_lemmas.Prefixes.{BeginsWithEntries, BeginsWithJournal}
use Rattle.flute_journal.proofs.format_lemmas.Prefixes.{without_end-of_spelling}
use Rattle.flute_journal.proofs.format_lemmas.Rising.{Rises-second, Rises, rising-rises}
use Rattle.flute_journal.specs.Whole.{in_header as part_in_header, after_entries as part_after}
use Rattle.flute_journal.specs.Prefixes.{in_header, after_entries}
use Rattle.flute_journal.specs.declared.fault.ReadFault.TheVariants as faults

-- no entry is held back before the next one
all_read : (v : Version) (es : List Fact) → read_of journal_framing v es ++ end_bytes
    journal_framing v (state_at journal_framing v es) ≡ spelling_in v es
all_read x0 x1 = search rules

-- what was read where a fault was found
part_at : {limit : ℕ} (u x w : Option (List ℕ)) (es : List Fact) {part : List ℕ}
    (a : AreItems journal_frame limit es) → Consumes u x (read_of journal_framing a.told es)
    → Consumes x w part → IsPart journal_framing a.told (state_at journal_framing a.told es) part
    → ReadsPart limit u w es
part_at u x w [] {part = part} a took more (in_opening short) =
    part_in_header refl part (Consumes-trans u x w [] part took more) short
part_at u x w [] {part = part} a took more (in_item rest e within) =
    part_after a rest (subst (Consumes u w) e (Consumes-trans u x w [] part took more)) within
part_at u x w (e ∷ es) {part = part} a took more (in_opening short) =
    let front = without_end_in a.told (e ∷ es) in
    part_after a [] (subst (λ (l : List ℕ). Consumes u w (front ++ l))
    (nil_from_length part (omega (arith, short))) (Consumes-trans u x w front part took more))
    (within_nil a.told)
part_at u x w (e ∷ es) {part = part} a took more (in_item rest is within) =
    let front = without_end_in a.told (e ∷ es) in
    part_after a rest (subst (λ (l : List ℕ). Consumes u w (front ++ l)) is
    (Consumes-trans u x w front part took more)) within

reads_part : (limit : ℕ) (u x w : Option (List ℕ)) (es : List Fact) (f : ReadFault)
    → FaultAfter journal_framing limit u x w es f → ReadsPart limit u w es
reads_part limit u x w es f i = search (rules, part_at)

-- the source failed after these entries
broken_at : (limit : ℕ) (u x w : Option (List ℕ)) (es : List Fact)
    (a : AreItems journal_frame limit es) → Consumes u x (read_of journal_framing a.told es)
    → IsFaultUpTo (end_bytes journal_framing a.told (state_at journal_framing a.told es))
    (fault_from journal_framing (state_at journal_framing a.told es) limit) x w faults.Read
    → StopsAfter limit es u w faults.Read
broken_at limit u x w es a took h =
    let read = read_of journal_framing a.told es in
    elim h [
      | inl c ↦ (
        read ++ c.0,
        Consumes-trans u x w read c.0 took c.1,
        inl
            (stops_at journal_sound limit (read ++ c.0) c.0 es faults.Cut a refl c.2),
      )
      | inr c ↦
          let all = end_bytes journal_framing a.told (state_at journal_framing a.told es) in (
            spelling_in a.told es,
            subst (Consumes u w) (all_read a.told es)
                (Consumes-trans u x w read all took c),
            inr
                (record { are_items = a; bytes_are = refl }),
          )
    ]

stopped_at : (limit : ℕ) (u x w : Option (List ℕ)) (es : List Fact) (f : ReadFault)
    → FaultAfter journal_framing limit u x w es f → StopsAfter limit es u w f
stopped_at limit u x w es faults.Read i =
    broken_at limit u x w es i.are_items i.before_it i.at_fault.fault
stopped_at limit u x w es faults.OutOfMemory i = reads_part limit u x w es faults.OutOfMemory i
stopped_at limit u x w es f i =
    stops_by journal_sound limit u x es f i.are_items i.before_it i.at_fault.fault

-- a fault after these entries, and what was read
pub sofar-stops : {limit : ℕ} {u v w : Option (List ℕ)} {old new : ReaderState Before}
    {es : List Fact} {f : ReadFault} → Sofar journal_framing limit u v old es → GivesFault
    journal_framing limit old new v w f → StopsAfter limit es u w f × ReadsPart limit u w es
sofar-stops {limit = limit} {u = u} {v = x} {w = w} {es = es} {f = f} s h =
    let i = found_now s h in
    (stopped_at limit u x w es f i, reads_part limit u x w es f i)

-- What was read: whole entries, and a part of the next one (ReadsPart).

pub reads-sofar : (limit : ℕ) (u v : Option (List ℕ)) (state : ReaderState Before) (es : List Fact)
    → Sofar journal_framing limit u v state es → ReadsEntries u v es
reads-sofar limit u x state [] s = record {
  version = s.are_items.told;
  valid = tt;
  bytes = [];
  read = s.read;
  ends = in_header refl (omega arith);
}
reads-sofar limit u x state (e ∷ es) s =
    let v = s.are_items.told in
    record {
      version = v;
      valid = s.are_items.valid;
      bytes = without_end_in v (e ∷ es);
      read = s.read;
      ends = after_entries [] (sym (append-nil (without_end_in v (e ∷ es)))) (within_nil v);
    }

pub reads-side : (limit : ℕ) (u v : Option (List ℕ)) (state : ReaderState Before)
    (settled : List Fact) (held : Option Fact) → Side journal_framing limit u v state settled held
    → ReadsEntries u v settled
reads-side limit u x state settled None s =
    let v = s.are_items.told in
    record {
      version = v;
      valid = s.are_items.valid;
      bytes = spelling_in v settled;
      read = s.read;
      ends = after_entries (end (length settled)) refl (within_end v (length settled));
    }
reads-side limit u x state settled (Some f) s =
    let v = s.are_items.told in
    let valid = all_split (IsFactIn v) settled (f ∷ []) s.are_items.valid in
    record {
      version = v;
      valid = valid.0;
      bytes = read_of journal_framing v (settled ++ f ∷ []);
      read = s.read;
      ends = after_entries (entry_in v f)
          (read_some journal_framing v settled f ∙ sym (without_end_in-snoc v settled f))
          (within_entry v f valid.1.0);
    }

ends_part : (v : Version) (es : List Fact) (part : List ℕ) → IsPart journal_framing v
    (state_at journal_framing v es) part → EndsAfter v es (read_of journal_framing v es ++ part)
ends_part v [] part (in_opening few) = in_header refl few
ends_part v [] part (in_item more e w) = after_entries more e w
ends_part v (x ∷ es) part (in_opening few) =
    after_entries part refl (entry_within-short v part (omega (arith, few)))
ends_part v (x ∷ es) part (in_item more e w) =
    after_entries more (ap (λ (l : List ℕ). without_end_in v (x ∷ es) ++ l) e) w

-- what was read, at a fault of the bytes
pub reads-fault : {limit : ℕ} {u v w : Option (List ℕ)} {old new : ReaderState Before}
    {es : List Fact} {f : ReadFault} → Sofar journal_framing limit u v old es
    → GivesFault journal_framing limit old new v w f → ReadsEntries u w es
reads-fault {u = u} {v = x} {w = w} {es = es} s g =
    let i = found_now s g in
    let v = i.are_items.told in
    let read = read_of journal_framing v es in
    record {
      version = v;
      valid = i.are_items.valid;
      bytes = read ++ i.at_fault.part;
      read = Consumes-trans u x w read i.at_fault.part i.before_it i.at_fault.read;
      ends = ends_part v es i.at_fault.part i.at_fault.is_part;
    }

-- the entries are these and others, which are above that address
abbrev pub Follows : Option Address → List Fact → List Fact → Type 0
Follows last settled es = (rest : List Fact) × (es ≡ settled ++ rest) × Rises last rest

-- if the input is a journal, its other entries are above that address
abbrev pub IsAhead : Option Address → Option (List ℕ) → List Fact → Type 0
IsAhead last input settled = (w : Version) (es : List Fact) → AllByRecursion (IsFactIn w) es
    → IsRising es → input ≡ Some (spelling_in w es) → Follows last settled es

-- a journal that begins with these entries has only entries above them after these
ahead-read : (v : Version) (input left : Option (List ℕ)) (settled : List Fact)
    → AllByRecursion (IsFactIn v) settled → Consumes input left (without_end_in v settled)
    → IsAhead (last_of None settled) input settled
ahead-read v None left settled p c w es q r e = absurd (none-some (spelling_in w es) e)
ahead-read v (Some xs) None settled p c w es q r e = absurd c
ahead-read v (Some xs) (Some ys) settled p c w es q r e =
    let begun : BeginsWithEntries v settled ys xs = record { valid = p; bytes_are = c } in
    let whole : BeginsWithJournal w es [] xs = search rules in
    let f = (without_end-of_spelling begun whole).1 in (
      f.more,
      f.items,
      Rises-second None settled f.more
          (subst (Rises None) f.items (rising-rises es r)),
    )

pub ahead-sofar : (limit : ℕ) (input left : Option (List ℕ)) (state : ReaderState Before)
    (settled : List Fact) → Sofar journal_framing limit input left state settled
    → IsAhead (last_of None settled) input settled
ahead-sofar limit input left state [] s w es q r e = (es, refl, rising-rises es r)
ahead-sofar limit input left state (f ∷ fs) s w es q r e = search (rules, ahead-read)
