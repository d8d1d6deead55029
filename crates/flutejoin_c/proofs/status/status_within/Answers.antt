-- status_within: the status of the object in the store that was read, or why none was.
use Rattle.std.proofs.Common.{ℕ, List, Option, Some, inl, refl, subst}
use Rattle.std.specs.Prelude.{IfSome}
use Rattle.flute_journal.specs.Stores.{IsJournalOf, IsLoadFault}
use Rattle.flutejoin.specs.Limits.{at_most}
use Rattle.flutejoin.specs.declared.limits.TheConstants.{MAX_ENTRIES}
use Rattle.flutejoin_c.proofs.Loads.{not_loaded}
use Rattle.flutejoin_c.proofs.status.status_within.Goals as goal

pub returns-in-Err-clause-failed : goal.returns-in-Err-clause-failed
returns-in-Err-clause-failed g c =
    let row = g.row in
    let left : Option (List ℕ) = Some c.read_store-read.new.source.unread.now in
    let P : Option (List ℕ) → Type 0 =
    λ u. IsLoadFault row.SESSIONS row.OBJECTS row.SYMBOLS MAX_ENTRIES u left c.in-Err.fault in
    rw c.load_fault.ensures
    (not_loaded (at_most row.SESSIONS row.OBJECTS row.SYMBOLS) c.args.journal.now left
    c.args.key.now c.in-Err.fault
    (subst P c.new-source.ensures.bytes c.in-Err.ensures.fault))

pub returns-in-Some-clause-told : goal.returns-in-Some-clause-told
returns-in-Some-clause-told g c =
    let P : Option (List ℕ) → Type 0 =
    λ u. IfSome u (λ bytes. IsJournalOf MAX_ENTRIES bytes c.in-Ok.store) in
    record {
      facts = c.in-Ok.store;
      journal_is = subst P c.new-source.ensures.bytes c.in-Ok.ensures.journal;
      within = c.in-Ok.ensures.within;
      so = c.in-Some.ensures;
    }

pub returns-clause-failed : goal.returns-clause-failed
returns-clause-failed g c =
    let P : Option (List ℕ) → Type 0 =
    λ u. IfSome u (λ bytes. IsJournalOf MAX_ENTRIES bytes c.in-Ok.store) in
    inl (
      refl,
      record {
        facts = c.in-Ok.store;
        journal_is = subst P c.new-source.ensures.bytes c.in-Ok.ensures.journal;
        within = c.in-Ok.ensures.within;
        so = c.in-None.ensures;
      },
    )
