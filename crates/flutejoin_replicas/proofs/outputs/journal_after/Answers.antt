-- journal_after: the journal that is written is that of what the replica was given.
use Rattle.flute_parts.proofs.Public.{Same-members, Same-trans}
use Rattle.flutejoin_replicas.proofs.Given.{store_same, written_as_given, written_as_others}
use Rattle.flutejoin_replicas.proofs.Given.{cut_as_given}
use Rattle.flutejoin_replicas.proofs.outputs.journal_after.Goals as goal

pub returns-in-Ok-write_store-clause-journal : goal.returns-in-Ok-write_store-clause-journal
returns-in-Ok-write_store-clause-journal g c = λ origins fits.
    written_as_given _ _
    (store_same origins c.args.replica c.in-Ok.ensures.done fits c.in-Some.ensures.1)
    c.in-Ok-write_store.ensures.bytes c.in-Ok-write_store.ensures.journal
    c.keeps_order_and_limits.ensures.rising c.in-Ok-write_store.ensures.count

pub returns-in-Ok-write_store-clause-one : goal.returns-in-Ok-write_store-clause-one
returns-in-Ok-write_store-clause-one g c =
    λ m others q origins further fits fits_too members bytes journal.
    let held = store_same origins c.args.replica c.in-Ok.ensures.done fits c.in-Some.ensures.1 in
    written_as_others _ _ bytes (Same-trans _ _ _ held (Same-members _ _ members))
    c.in-Ok-write_store.ensures.bytes c.in-Ok-write_store.ensures.journal journal

pub returns-clause-journal : goal.returns-clause-journal
returns-clause-journal g c = λ origins fits bytes journal.
    cut_as_given _ _ bytes
    (store_same origins c.args.replica c.in-Ok.ensures.done fits c.in-Some.ensures.1)
    c.in-Err-write_store.ensures.bytes c.write_store.ensures.only journal
