-- open_inputs: one name more.
use Rattle.std.proofs.Common.{◌≡◌, rules, arith, List, ℕ, [], Bor, map, get_or, subst, sym, ◌+◌}
use Rattle.std.proofs.Common.{◌∙◌}
use Rattle.flutejoin_commands.specs.Opened.{IsOpened, FirstNotOpened}
use Rattle.flutejoin_commands.proofs.Openings.{here_is, pushed, one_opened, all_opened}
use Rattle.flutejoin_commands.proofs.Openings.{next_not_opened}
use Rattle.flutejoin_commands.proofs.opening.open_inputs.Goals as goal

pub returns-in_err-input-clause-failed : goal.returns-in_err-input-clause-failed
returns-in_err-input-clause-failed g c =
    let files = g.I.Inputs.files c.args.inputs.now in
    let paths = c.args.paths.now in
    let first : Bor (List ℕ) = record { ref_ptr = (0, 0); now = [] } in
    let names = map (λ path. path.now) paths in
    let before = c.loop-k.invariant.asked in
    let one = c.open_one.ensures.asked in
    let asked : g.I.Inputs.asked c.open_one.new.inputs ≡ g.I.Inputs.asked c.args.inputs.now
    + (c.loop-k.k + 1) = omega (arith, before, one) in
    let not : FirstNotOpened files g.I.Input.Source.unread names
    (g.I.Inputs.asked c.args.inputs.now) (g.I.Inputs.asked c.open_one.new.inputs)
    c.in_err-input.field-0.0 =
    next_not_opened files g.I.Input.Source.unread
    c.loop-k.invariant.same_files c.loop-k.invariant.opened
    (here_is (λ path. path.now) paths c.loop-k.k first c.loop-k-test.true)
    c.in_err-input.ensures.failed asked in
    search rules

pub loop-k-preserved : goal.loop-k-preserved
loop-k-preserved g c =
    let files = g.I.Inputs.files c.args.inputs.now in
    let paths = c.args.paths.now in
    let first : Bor (List ℕ) = record { ref_ptr = (0, 0); now = [] } in
    let before = c.loop-k.invariant.asked in
    let one = c.open_one.ensures.asked in
    record {
      same_files = c.open_one.ensures.same_files ∙ c.loop-k.invariant.same_files;
      same_folders = c.open_one.ensures.same_folders ∙ c.loop-k.invariant.same_folders;
      same_closed = c.open_one.ensures.same_closed ∙ c.loop-k.invariant.same_closed;
      opened =
          one_opened files g.I.Input.Source.unread c.in_ok-input.input
          c.loop-k.invariant.opened (here_is (λ path. path.now) paths c.loop-k.k first
          c.loop-k-test.true)
          (subst (λ f. IsOpened f g.I.Input.Source.unread (get_or paths c.loop-k.k first).now
          c.in_ok-input.input) c.loop-k.invariant.same_files c.in_ok-input.ensures.opened)
          (pushed c.push.result c.push.new.self.items _ _ (sym c.is_err.ensures.value
          ∙ c.if-is_err.false) c.push.ensures.items);
      asked = omega (arith, before, one);
    }

pub returns-clause-opened : goal.returns-clause-opened
returns-clause-opened g c =
    all_opened (g.I.Inputs.files c.args.inputs.now) g.I.Input.Source.unread (λ path. path.now)
    c.args.paths.now c.loop-k.opened.items c.loop-k.k c.loop-k.invariant.opened
    c.loop-k-test.false
