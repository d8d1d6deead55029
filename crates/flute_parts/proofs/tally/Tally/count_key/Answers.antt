-- Tally::count_key: the counts and limits for a known and for a new session and object.
use Rattle.std.proofs.Common.{rules}
use Rattle.std.proofs.Common.{◌≡◌, Some, ap, sym, ◌∙◌}
use Rattle.flute_parts.specs.declared.key.Key.{Key}
use Rattle.flute_parts.proofs.Tallied.{session-told, key-told, key-told_apart}
use Rattle.flute_parts.proofs.Tallied.{count-same_key, count-object, over-object, count-session}
use Rattle.flute_parts.proofs.Tallied.{over-session, over-first_object}
use Rattle.flute_parts.proofs.tally.Tally.count_key.Goals as goal
use Rattle.flute_parts.proofs.tally.Tally.count_key.Goals.{in_default-via-in-Some-2+else-eq-2}
use Rattle.flute_parts.proofs.tally.Tally.count_key.Goals.{in_default-via-in_default}

pub returns-in-Some-clause-within : goal.returns-in-Some-clause-within
returns-in-Some-clause-within g c = λ F f e r k h. count-same_key F f _ r k
    (c.in-Some.is ∙ ap Some (key-told _ _ c.if-eq.ensures ∙ sym e))

pub returns-in-Some-2-clause-within : goal.returns-in-Some-2-clause-within
returns-in-Some-2-clause-within g c = λ F f e r k h. let last = c.in-Some.last in
    let key = c.args.key.now in
    let inside = session-told _ _ c.if-eq-2.ensures in
    let apart = key-told_apart _ key c.if-eq.ensures in
    let more = c.add_one.ensures.added h in
    count-object F f _ r k key _ e c.in-Some.is inside apart _ more.1 more.0

pub returns-in-Some-2-clause-over : goal.returns-in-Some-2-clause-over
returns-in-Some-2-clause-over g c = λ F f e r k h. let last = c.in-Some.last in
    let key = c.args.key.now in
    let inside = session-told _ _ c.if-eq-2.ensures in
    let apart = key-told_apart _ key c.if-eq.ensures in
    over-object F f _ r k key _ e c.in-Some.is inside apart (c.add_one.ensures.full h)

pub returns-then-add_one-clause-within : goal.returns-then-add_one-clause-within
returns-then-add_one-clause-within g c = λ F f e r k h. let self = c.args.self.now in
    let key = c.args.key.now in
    let apart : (x : Key) → self.last ≡ Some x → x.session ≡ key.session → ⊥ = search rules in
    let session = c.add_one-in_default.ensures.added c.if-add_one.true in
    let object = c.add_one-then-add_one.ensures.added h in
    count-session F f _ r k key e apart _ _ session.1 object.1 session.0 object.0

pub returns-then-add_one-clause-over : goal.returns-then-add_one-clause-over
returns-then-add_one-clause-over g c = λ F f e r k h. let self = c.args.self.now in
    let key = c.args.key.now in
    let apart : (x : Key) → self.last ≡ Some x → x.session ≡ key.session → ⊥ = search rules in
    over-first_object F f _ r k key e apart (c.add_one-then-add_one.ensures.full h)

pub returns-else-add_one-clause-over : goal.returns-else-add_one-clause-over
returns-else-add_one-clause-over g c = λ F f e r k h. let self = c.args.self.now in
    let key = c.args.key.now in
    let apart : (x : Key) → self.last ≡ Some x → x.session ≡ key.session → ⊥ = search rules in
    over-session F f _ r k key e apart (c.add_one-in_default.ensures.full h)
