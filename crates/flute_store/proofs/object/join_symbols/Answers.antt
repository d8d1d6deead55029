-- join_symbols: the joined symbols are within the limit, or there was no room for another.
use Rattle.std.proofs.Common.{rules}
use Rattle.std.proofs.Common.{◌≡◌, ◌≢◌, ◌<◌, None, ap, arith, length, refl}
use Rattle.std.proofs.Common.{sym, ◌∙◌}
use Rattle.flute_store.proofs.Common
use Common.{join_nothing, symbol_id_cmp, symbols_join, update_cell, update_symbols}
use Common.{value_at}
use Rattle.flute_store.proofs.OnePair.{symbols_joined, joined-sound, full-beyond}
use Rattle.flute_store.proofs.OnePair.{known-join, known-update}
use Rattle.flute_store.proofs.object.join_symbols.Goals as goal

pub returns-in-Some-clause-full : goal.returns-in-Some-clause-full
returns-in-Some-clause-full g c = λ e. let full = c.join_with.ensures.full.0 e in rw c.in-Some.is
    (full-beyond symbols_joined _ _ (update_cell _) _ full.0 full.1)

pub returns-in-Some-clause-room : goal.returns-in-Some-clause-room
returns-in-Some-clause-room g c = λ not_full. let es = c.args.symbols.now in
    let w = update_cell _ in
    let within = c.join_with.ensures.within in
    let room : value_at symbol_id_cmp es c.in-Some.id ≡ None → length es < g.row.SYMBOLS = λ absent.
    let not_many : length es ≢ g.row.SYMBOLS = λ many. not_full
    (c.join_with.ensures.full.1 (absent, many)) in omega (arith, within) in
    let sound = joined-sound symbols_joined
    (record { ordered = search rules; within = within; each = c.requires.symbols.each }) _ w _ refl
    (λ v. known-join _ v w) (known-update _) room in rw c.in-Some.is
    (record { ordered = sound.ordered; within = sound.within; each = sound.each })

pub returns-in-None-clause-ok : goal.returns-in-None-clause-ok
returns-in-None-clause-ok g c = sym (ap (λ o. symbols_join c.args.symbols.now (update_symbols o))
    c.in-None.is ∙ join_nothing _ _ _)

pub returns-in-None-clause-room : goal.returns-in-None-clause-room
returns-in-None-clause-room g c = λ _. rw (← (returns-in-None-clause-ok g c)) c.requires.symbols
