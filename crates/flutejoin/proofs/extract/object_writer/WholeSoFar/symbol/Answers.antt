-- WholeSoFar::symbol: the object so far, after each kind of turn of its scan.
use Rattle.std.proofs.Common.{rules}
use Rattle.std.proofs.Common.{◌≡◌, ◌∙◌, ℕ, Bool, List, Option, Result, take, refl, sym, ap, arith}
use Rattle.std.proofs.lemmas.List.{length-take, take_min}
use Rattle.std.proofs.KnownBytes.{Appends-nil}
use Rattle.std.specs.Prelude.{is_err}
use Rattle.std.specs.Borrow.{Bor}
use Rattle.flute_parts.specs.Devices.{Writes}
use Rattle.flute_parts.specs.declared.symbol_id.SymbolId.{SymbolId}
use Rattle.flute_store.specs.Scan.{value_of}
use Rattle.flute_journal.specs.JournalWriters.{Written}
use Rattle.flutejoin.proofs.extract_lemmas.ObjectWriters.{next-rises, can-come, settled-next}
use Rattle.flutejoin.proofs.extract_lemmas.ObjectWriters.{wrote-next, passed-next, fits-next}
use Rattle.flutejoin.proofs.extract_lemmas.ObjectWriters.{idle-next, idle-fits, wanted-turn}
use Rattle.flutejoin.proofs.extract.object_writer.WholeSoFar.symbol.Goals as goal

-- what a sink took is all, unless it has failed
writes_written : {T E : Type 0} (old new : Option (List ℕ)) (bytes : List ℕ) (result : Result T E)
    (failed : Bool) → failed ≡ is_err result → Writes old new bytes result → Written failed old new
    bytes
writes_written = search rules

pub returns-then-not-failed-clause-passed : goal.returns-then-not-failed-clause-passed
returns-then-not-failed-clause-passed g c = λ P key start r h. let n : SymbolId × Option
    (Bor (List ℕ)) = (c.args.id, c.args.value) in
    let t = c.in-Fitting.ensures.turned h.scanned h.scans (next-rises h n r) (can-come h n r) in
    let bytes = c.in-Some.bytes.now in
    passed-next h n r _ (fits-next h n r _ _ t.1 (ap (λ v. value_of (c.args.id, v)) c.in-Some.is))
    t.2 (c.next.ensures.part t.0 t.2) refl
    (omega (arith, c.min.ensures, length-take c.min.result bytes)) (rw
    (c.if-not-failed.true, sym (ap (λ k. take k bytes) c.min.ensures ∙ take_min _ _))
    (writes_written _ _ _ _ _ c.is_err.ensures.value c.write_all.ensures.bytes))

pub returns-else-not-failed-clause-passed : goal.returns-else-not-failed-clause-passed
returns-else-not-failed-clause-passed g c = λ P key start r h. let n : SymbolId × Option
    (Bor (List ℕ)) = (c.args.id, c.args.value) in
    let t = c.in-Fitting.ensures.turned h.scanned h.scans (next-rises h n r) (can-come h n r) in
    let bytes = c.in-Some.bytes.now in
    passed-next h n r _ (fits-next h n r _ _ t.1 (ap (λ v. value_of (c.args.id, v)) c.in-Some.is))
    t.2 (c.next.ensures.part t.0 t.2) refl
    (omega (arith, c.min.ensures, length-take c.min.result bytes))
    (rw c.if-not-failed.false (Appends-nil _))

pub returns-in_default-clause-passed : goal.returns-in_default-clause-passed
returns-in_default-clause-passed g c = λ P key start r h.
    let n : SymbolId × Option (Bor (List ℕ)) = (c.args.id, c.args.value) in
    let t = c.in-Fitting.ensures.turned h.scanned h.scans (next-rises h n r) (can-come h n r) in
    idle-fits h n r (ap (λ v. value_of (c.args.id, v)) c.in_default.is) t.1 t.2
    (c.next.ensures.part t.0 t.2) refl refl

pub returns-in-Passed-clause-passed : goal.returns-in-Passed-clause-passed
returns-in-Passed-clause-passed g c = λ P key start r h.
    let n : SymbolId × Option (Bor (List ℕ)) = (c.args.id, c.args.value) in
    let t = c.in-Passed.ensures.turned h.scanned h.scans (next-rises h n r) (can-come h n r) in
    idle-next h n r t.1 t.2 (c.next.ensures.part t.0 t.2) refl refl

pub returns-in-Gap-clause-passed : goal.returns-in-Gap-clause-passed
returns-in-Gap-clause-passed g c = λ P key start r h.
    let n : SymbolId × Option (Bor (List ℕ)) = (c.args.id, c.args.value) in
    let t = c.in-Gap.ensures.turned h.scanned h.scans (next-rises h n r) (can-come h n r) in
    (settled-next h n r _ t.1.first, wrote-next h n r)

pub returns-in-Wanted-clause-passed : goal.returns-in-Wanted-clause-passed
returns-in-Wanted-clause-passed g c = λ P key start r h. let n : SymbolId × Option (Bor (List ℕ)) =
    (c.args.id, c.args.value) in
    let t = c.next.ensures.turned h.scanned h.scans (next-rises h n r) (can-come h n r) in
    (settled-next h n r _ (wanted-turn _ _ n _ c.in-Wanted.is t.1), wrote-next h n r)
