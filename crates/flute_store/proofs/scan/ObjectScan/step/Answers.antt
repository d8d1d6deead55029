-- ObjectScan::step: the turn it makes, and the blocks that are left.
use Rattle.std.proofs.Common.{◌≡◌, rules, sym, subst, ap, ◌∙◌}
use Rattle.flute_store.proofs.Common.{turn_of, ScanState, Scans, announced, passed_at_end}
use Rattle.flute_store.proofs.ScanGaps.{Step}
use Rattle.flute_store.proofs.ScanSteps.{can-add, step-scan, stepped, begins-blocks}
use Rattle.flute_store.proofs.scan.ObjectScan.step.Goals.{in-Some-End-Some, in_default}
use Rattle.flute_store.proofs.scan.ObjectScan.step.Goals.{in_default-2, in_default-3}
use Rattle.flute_store.proofs.scan.ObjectScan.step.Goals as goal

pub add_turn-requires : goal.add_turn-requires
add_turn-requires c = can-add _ c.args.held.now _ _ c.self.invariant c.turn-turn.ensures.turn

pub invariant_of-self : goal.invariant_of-self
invariant_of-self c = step-scan c.args.held.now _ _ c.self.invariant c.turn-turn.ensures.turn
    c.turn-turn.ensures.place c.add_turn.ensures

pub returns-clause-step : goal.returns-clause-step
returns-clause-step c = λ s next h q f. let step : Step _ s next c.turn-turn.result _ = record {
  scan = c.self.invariant;
  scans = subst (λ (o : ScanState). Scans o (announced s next)) (sym c.self.view_is) q;
  turn_is = c.turn-turn.ensures.turn ∙ ap (turn_of c.self.inside.walk) h;
  place = c.turn-turn.ensures.place;
} in
    let passed : c.match-turn.result ≡ passed_at_end c.turn-turn.result c.args.held.now = elim
    c.match-turn.branch [
      | in-Some-End-Some w ↦ search rules
      | in_default w ↦ search rules
      | in_default-2 w ↦ search rules
      | in_default-3 w ↦ search rules
    ] in rw (passed ∙ ap (passed_at_end c.turn-turn.result) h)
    (stepped next c.turn-turn.result step _ f c.add_turn.ensures)

pub returns-clause-blocks : goal.returns-clause-blocks
returns-clause-blocks c = begins-blocks c.args.held.now c.add_turn.new.self c.self.view_is
    c.turn-turn.ensures.turn c.turn-turn.ensures.place
