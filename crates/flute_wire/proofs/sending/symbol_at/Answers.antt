use Rattle.std.proofs.Common.{ℕ, ◌*◌, ◌-◌, ◌≤◌, List, length, take, drop, ap, ◌∙◌, Some, arith}
use Rattle.std.proofs.lemmas.List.{take_all, take_min, length-drop}
use Rattle.std.specs.Option.{option_map}
use Rattle.flute_wire.proofs.Pieces.{none_there, some_there, begins}
use Rattle.flute_wire.proofs.sending.symbol_at.Goals as goal

pub returns-in_err-id : goal.returns-in_err-id
returns-in_err-id c = ap (option_map (λ s. (s.0, s.1.now))) c.from_residual.ensures ∙ none_there
    c.args.info.now c.args.partition.now c.args.content.now c.args.place c.requires.same
    c.in_err-id.ensures

within : (c : goal.After-from-symbol_length)
    → c.args.place * c.from-symbol_length.result ≤ length c.args.content.now
within c =
    let begins = begins c.args.info.now c.args.partition.now c.args.place c.in_ok-id.id
    c.symbol.ensures.valid c.requires.same c.in_ok-id.ensures in rw
    (c.from-symbol_length.ensures, c.symbol.ensures.value, c.requires.whole) begins

pub overflow_mul-rest : goal.overflow_mul-rest
overflow_mul-rest c =
    let small = c.symbol.ensures.valid.length in
    let whole = c.requires.whole in
    omega (arith, within c)

pub slice_bounds-rest-start : goal.slice_bounds-rest-start
slice_bounds-rest-start c = omega (arith, within c)

pub slice_bounds-rest-count : goal.slice_bounds-rest-count
slice_bounds-rest-count c = omega (arith, within c)

pub returns : goal.returns
returns c =
    let content = c.args.content.now in
    let length_is = c.from-symbol_length.ensures ∙ c.symbol.ensures.value in
    let start : ℕ = c.args.place * c.from-symbol_length.result in
    let rest : List ℕ = take (length content - start) (drop start content) in
    ap (λ (bytes : List ℕ). Some (c.in_ok-id.id, bytes)) (ap (λ (n : ℕ). take n rest) c.min.ensures
    ∙ take_min c.from-symbol_length.result rest ∙ ap (take c.from-symbol_length.result) (take_all
    (length content - start) (drop start content)
    (let len = length-drop start content in omega arith)) ∙ ap
    (λ (n : ℕ). take n (drop (c.args.place * n) content)) length_is) ∙ some_there c.args.info.now
    c.args.partition.now c.args.content.now c.args.place c.in_ok-id.id c.requires.same
    c.in_ok-id.ensures
