-- What the calls of a JournalReader return.
use Rattle.std.proofs.Common.{rules}
use Rattle.flute_journal.proofs.Common.{AsksMemory, Before, Consumes, Consumes-nil, Fact, Failed}
use Rattle.flute_journal.proofs.Common.{Gives, IfErr, IsFactIn, Items, List, Err, Option}
use Rattle.flute_journal.proofs.Common.{ReadFault, ReaderState, ReadsFrom, ReadsNext, Result}
use Rattle.flute_journal.proofs.Common.{StaysWithin, Version, entry_in, is_open, journal_framing}
use Rattle.flute_journal.proofs.Common.{place_at, state_after, next_fault, refl, subst, sym, true}
use Rattle.flute_journal.proofs.Common.{[], ℕ, ◌<◌, ◌≡◌}
use Rattle.flute_journal.proofs.framing_lemmas.Framed.{ReadsWithin, gives, reads_on}
use Rattle.flute_journal.proofs.format_lemmas.Prefixes.{within_nil}
use Rattle.flute_journal.proofs.framing_lemmas.Passes.{entry-passes}
use Rattle.flute_journal.proofs.framing_lemmas.ReadsUpTo.{asks_seen}
use Rattle.std.specs.Prelude.{⊤}
use Rattle.flute_journal.specs.Lent.{HasEntry}
use Rattle.flute_journal.specs.declared.fault.ReadFault.TheVariants as faults

-- any fault may be one of a journal
pub any_fault : {X : Type 0} (r : Result X ReadFault) → IfErr r (λ f. ⊤)
any_fault x0 = search rules

pub reads_entries : (limit : ℕ) (before : Before) (u v : Option (List ℕ))
    (r : Result (Option Fact) ReadFault) → ReadsNext journal_framing limit before u v r
    → StaysWithin (entry_in before.version) (IsFactIn before.version) u v r
    → ReadsFrom journal_framing before.version limit (Items before) u v r
reads_entries limit before u v r h w = search (rules, any_fault, reads_on)

pub gives_entries : (limit : ℕ) (told : Version) (old : ReaderState Before)
    {new : ReaderState Before} (u v : Option (List ℕ)) (r : Result (Option Fact) ReadFault) → new ≡
    state_after journal_framing (place_at journal_framing told old) r → (is_open old ≡ true) ×
    ReadsFrom journal_framing told limit old u v r → Gives journal_framing limit old new u v r
gives_entries limit told old u v r e h = search rules

-- there was no memory for an entry that was seen
pub entry_wanted : (limit : ℕ) (before : Before) {u v : Option (List ℕ)} {f : ReadFault} →
    before.count < limit → f ≡ faults.OutOfMemory → v ≡ u → HasEntry before.version before.last u →
    Gives journal_framing limit (Items before) (Failed f) u v (Err f)
entry_wanted limit before {u = u} {v = v} few is same h =
    let fault = next_fault before limit in
    let asks : AsksMemory fault u v = asks_seen fault u v (entry_in before.version h.fact) same
    h.begins (λ r. entry-passes limit before h.fact r h.valid few h.in_order) in
    let read : ReadsWithin journal_framing limit before u v (Err faults.OutOfMemory) = record {
      next = asks;
      within = (
        [],
        subst (λ (x : Option (List ℕ)). Consumes u x []) (sym same) (Consumes-nil u),
        within_nil before.version,
      );
      possible = tt;
    } in
    let P : ReadFault → Type 0 = λ g. Gives journal_framing limit (Items before) (Failed g) u v
    (Err g) in subst P (sym is) (gives journal_framing limit before.version (Items before) u v
    (Err faults.OutOfMemory) refl
    (refl, reads_on journal_framing before.version (Err faults.OutOfMemory) read))

-- the same of a state and bytes that are known by equations
pub gives_at : (limit : ℕ) {at old : ReaderState Before} (new : ReaderState Before)
    {x u : Option (List ℕ)} (v : Option (List ℕ)) (r : Result (Option Fact) ReadFault) → at ≡ old →
    x ≡ u → Gives journal_framing limit at new x v r → Gives journal_framing limit old new u v r
gives_at limit {old = old} new {x = x} v r is same g = search rules
