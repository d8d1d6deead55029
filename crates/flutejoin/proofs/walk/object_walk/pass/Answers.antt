-- pass: its loop tells the gaps before the next symbol, and then how that is passed.
use Rattle.std.proofs.Common.{◌∙◌, Some, subst, sym, ap, refl, arith}
use Rattle.flute_store.specs.Scan.{Turned}
use Rattle.flute_store.specs.declared.turn.Turn.{Turn}
use Rattle.flutejoin.specs.Progress.{Progress, progress_of, with_value}
use Rattle.flutejoin.proofs.walk_lemmas.Objects.{on_ok}
use Rattle.flutejoin.proofs.walk_lemmas.Turns.{can_pass, gave_more, gave_none, no_gap}
use Rattle.flutejoin.proofs.walk_lemmas.Turns.{told_by, told_none, turned, value_told}
use Rattle.flutejoin.proofs.walk.object_walk.pass.Goals as goal

pub loop-gap-init : goal.loop-gap-init
loop-gap-init g c = record {
  gave = λ s h r e b. (gave_none s c.args.next c.args.scan.now h e b, λ at objects k. k);
  kept = refl;
  failures = refl;
}

pub loop-gap-smaller : goal.loop-gap-smaller
loop-gap-smaller g c =
    let s = c.requires in
    let gave = (c.loop-gap.invariant.gave s.0 s.1 s.2 s.3 s.4).0 in
    let turn = c.in-Gap.ensures.turned gave.t gave.scans (can_pass gave s.2) gave.comes in
    omega (arith, gave.scans.ahead_is, turn.2.ahead_is, turn.1.fewer)

pub loop-gap-preserved : goal.loop-gap-preserved
loop-gap-preserved g c = record {
  gave = λ s h r e b. let m = c.loop-gap.invariant.gave s h r e b in
      let turn = c.in-Gap.ensures.turned m.0.t m.0.scans (can_pass m.0 r) m.0.comes in (
        gave_more m.0 turn,
        λ at objects k. subst
            (λ x. g.V.Visitor.Has at objects (Some x) c.gap.new.self)
            (sym (ap progress_of turn.1.now))
            (c.in_ok-gap-in-Gap.ensures.told at objects (progress_of m.0.t) (m.1 at objects k)),
      );
  kept = c.gap.ensures.kept ∙ c.loop-gap.invariant.kept;
  failures = omega (arith, c.in_ok-gap-in-Gap.ensures.failures, c.loop-gap.invariant.failures);
}

pub returns-in-Some-clause-passed : goal.returns-in-Some-clause-passed
returns-in-Some-clause-passed g c = λ at s objects h r e b k. let m = c.loop-gap.invariant.gave s h
    r e b in
    let turn = c.in-Fitting.ensures.turned m.0.t m.0.scans (can_pass m.0 r) m.0.comes in
    let p = turned c.args.next Turn.Fitting m.0 turn.1 (λ gap e. absurd cc) in
    let v = c.in-Some in
    let value = ap (λ x. told_by Turn.Fitting x (progress_of m.0.t)) v.is ∙ ap
    (λ l. with_value l (progress_of m.0.t)) (value_told v.field-0-0 v.value) in on_ok
    c.tell_value.result (λ k. (
      turn.0,
      p.0,
      turn.2,
      subst
          (λ (x : Progress). g.V.Visitor.Has at objects (Some x) c.tell_value.new.visitor)
          (sym (p.1 ∙ value)) k,
    ))
    (c.tell_value.ensures.told at objects (progress_of m.0.t) (m.1 at objects k))

pub returns-in-None-clause-passed : goal.returns-in-None-clause-passed
returns-in-None-clause-passed g c = λ at s objects h r e b k.
    let m = c.loop-gap.invariant.gave s h r e b in
    let turn = c.in-Fitting.ensures.turned m.0.t m.0.scans (can_pass m.0 r) m.0.comes in
    absurd (subst (λ x. Turned m.0.t x Turn.Fitting turn.0) c.in-None.is turn.1)

pub returns-in-Wanted-clause-passed : goal.returns-in-Wanted-clause-passed
returns-in-Wanted-clause-passed g c = λ at s objects h r e b k. let m = c.loop-gap.invariant.gave s
    h r e b in
    let turn = c.in-Wanted.ensures.turned m.0.t m.0.scans (can_pass m.0 r) m.0.comes in
    let p = turned c.args.next Turn.Wanted m.0 turn.1 (λ gap e. absurd cc) in
    on_ok c.lacks.result (λ k. (
      turn.0,
      p.0,
      turn.2,
      subst
          (λ (x : Progress). g.V.Visitor.Has at objects (Some x) c.lacks.new.self) (sym p.1) k,
    ))
    (c.lacks.ensures.told at objects (progress_of m.0.t) (m.1 at objects k))

pub returns-in-Passed-clause-passed : goal.returns-in-Passed-clause-passed
returns-in-Passed-clause-passed g c = λ at s objects h r e b k. let m = c.loop-gap.invariant.gave s
    h r e b in
    let turn = c.next.ensures.turned m.0.t m.0.scans (can_pass m.0 r) m.0.comes in
    let p = turned _ _ m.0 turn.1 (no_gap _ c.in-Passed.is) in (
      turn.0,
      p.0,
      turn.2,
      subst (λ x. g.V.Visitor.Has at objects (Some x) c.loop-gap.visitor)
          (sym (p.1 ∙ told_none _ _ _ c.in-Passed.is)) (m.1 at objects k),
    )
