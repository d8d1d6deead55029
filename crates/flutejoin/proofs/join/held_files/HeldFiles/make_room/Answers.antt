-- HeldFiles::make_room: only what the store may have grown to was counted before.
use Rattle.std.proofs.Common.{refl}
use Rattle.flutejoin.proofs.walk_lemmas.Objects.{on_ok}
use Rattle.flutejoin.proofs.join_lemmas.Held.{holds_after}
use Rattle.flutejoin.proofs.join.held_files.HeldFiles.make_room.Goals as goal

pub returns-clause-held : goal.returns-clause-held
returns-clause-held g c = λ told choice. on_ok c.put_aside.result
    (holds_after (record { told = refl; fits = refl; reasons = refl; others = refl; runs = refl }))
    (c.put_aside.ensures.held told choice)
