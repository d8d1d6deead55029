-- HeldFiles::put_aside: a store is the journal of its facts, which is a run.
use Rattle.std.proofs.Common.{◌≡◌, ◌∙◌, ◌++◌, Some, ap, length, refl, subst}
use Rattle.std.specs.Io.KnownBytes.{Appends}
use Rattle.flute_parts.proofs.Public.{rising_unique, Same-append, Same-itself, Same-trans}
use Rattle.flute_journal.specs.Format.{spelling}
use Rattle.flutejoin.proofs.join_lemmas.Held.{holds_aside}
use Rattle.flutejoin.proofs.join_lemmas.Runs.{all_written}
use Rattle.flutejoin.proofs.join.held_files.HeldFiles.put_aside.Goals as goal

pub returns-clause-held : goal.returns-clause-held
returns-clause-held g c = λ told choice. let written = g.A.Aside.Sink.written in
    let store = c.args.self.now.told.store in
    let bytes : written c.write_store.new.sink ≡ Some (spelling store) = all_written
    (spelling store) (written c.write_store.new.sink) (subst
    (λ o. Appends o (written c.write_store.new.sink) (spelling store))
    (c.in-Ok.ensures.empty (c.merge_beyond.ensures.same_tells ∙ told))
    c.in-Ok-write_store.ensures.bytes) in
    let journal = c.in-Ok-write_store.ensures.journal in
    let one = rising_unique store journal.0 c.keeps_order_and_limits.ensures.rising journal.1.rising
    journal.1.same in holds_aside c.requires.fits c.requires.fits c.new.ensures refl refl refl refl (λ
    facts holds. let runs = c.in_ok-merge_beyond.ensures.held told facts holds in
    let more = c.in_ok-add_run.ensures.held (spelling store) store runs.0 bytes journal
    (c.in-Ok-write_store.ensures.count ∙ ap length one) runs.1 in (
      more.0,
      more.1,
      Same-trans
          more.0 (runs.0 ++ store) (facts ++ store) more.2
          (Same-append runs.0 facts store store runs.2 (Same-itself store)),
    ))
