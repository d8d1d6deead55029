-- join_of: the line of `join`, and each fault of its words, in the order of faults.
use Rattle.std.proofs.Common.{◌≡◌, arith, refl, rules, sym, subst}
use Rattle.flutejoin_line.specs.LineFaults.{IsJoinFault}
use Rattle.flutejoin_line.specs.Options.{found_rows}
use Rattle.flutejoin.specs.declared.command_fault.CommandFault.TheVariants.{OutOfMemory}
use Rattle.flutejoin.specs.declared.command_fault.CommandFault.TheVariants.{TooManyInputs}
use Rattle.flutejoin_line.proofs.CommandWords.{words_read}
use Rattle.flutejoin_line.proofs.JoinLines.{inputs_taken, no_memory, not_joined, once_of_all}
use Rattle.flutejoin_line.proofs.JoinLines.{right_scope, too_many, twice}
use Rattle.flutejoin_line.proofs.JoinLines.{wrong_key, wrong_memory, wrong_object, wrong_sender}
use Rattle.flutejoin_line.proofs.JoinLines.{wrong_sessions}
use Rattle.flutejoin_line.proofs.Options.{handed_on}
use Rattle.flutejoin_line.proofs.Selecting.{wrong_instance, wrong_toi}
use Rattle.flutejoin_line.proofs.join_words.join_of.Goals as goal

pub returns-in_err-sessions : goal.returns-in_err-sessions
returns-in_err-sessions c =
    handed_on c.from_residual.result c.in_err-sessions.field-0.0 _ _
    c.from_residual.ensures.1
    (wrong_sessions (found_rows c.args.matches.now) c.in_err-sessions.field-0.0
    c.in_err-sessions.ensures.0 c.in_err-sessions.ensures.1)

pub returns-in_err-toi : goal.returns-in_err-toi
returns-in_err-toi c =
    let rows = found_rows c.args.matches.now in
    handed_on c.from_residual-in_err-toi.result c.in_err-toi.field-0.0 _ _
    c.from_residual-in_err-toi.ensures.1
    (wrong_object rows (_, c.in_ok-sessions.ensures) c.in_err-toi.field-0.0
    (wrong_toi rows c.in_err-toi.field-0.0 c.in_err-toi.ensures.number.0
    c.in_err-toi.ensures.number.1 c.in_err-toi.ensures.number.2))

pub returns-in_err-instance : goal.returns-in_err-instance
returns-in_err-instance c =
    let rows = found_rows c.args.matches.now in
    handed_on c.from_residual-in_err-instance.result c.in_err-instance.field-0.0 _ _
    c.from_residual-in_err-instance.ensures.1
    (wrong_object rows (_, c.in_ok-sessions.ensures) c.in_err-instance.field-0.0
    (wrong_instance rows c.in_ok-toi.toi c.in_ok-toi.ensures.number
    c.in_err-instance.field-0.0 c.in_err-instance.ensures.number.0
    c.in_err-instance.ensures.number.1 c.in_err-instance.ensures.number.2))

pub returns-in_err-memory : goal.returns-in_err-memory
returns-in_err-memory c =
    handed_on c.from_residual-in_err-memory.result c.in_err-memory.field-0.0 _ _
    c.from_residual-in_err-memory.ensures.1
    (wrong_memory (found_rows c.args.matches.now) (_, c.in_ok-sessions.ensures)
    c.in_ok-toi.toi c.in_ok-instance.instance c.in_ok-toi.ensures.number
    c.in_ok-instance.ensures.number c.in_err-memory.field-0.0 c.in_err-memory.ensures.0
    c.in_err-memory.ensures.1)

pub returns-in_err-source : goal.returns-in_err-source
returns-in_err-source c =
    handed_on c.from_residual-in_err-source.result c.in_err-source.field-0.0 _ _
    c.from_residual-in_err-source.ensures.1
    (subst (IsJoinFault (found_rows c.args.matches.now)) (sym c.in_err-source.ensures.sender.0)
    (wrong_sender (found_rows c.args.matches.now) (_, c.in_ok-sessions.ensures)
    c.in_ok-toi.toi c.in_ok-instance.instance c.in_ok-toi.ensures.number
    c.in_ok-instance.ensures.number c.in_ok-memory.ensures c.in_err-source.ensures.sender.1))

pub returns-in_err-object : goal.returns-in_err-object
returns-in_err-object c =
    handed_on c.from_residual-in_err-object.result c.in_err-object.field-0.0 _ _
    c.from_residual-in_err-object.ensures.1
    (subst (IsJoinFault (found_rows c.args.matches.now)) (sym c.in_err-object.ensures.0)
    (wrong_key (found_rows c.args.matches.now) (_, c.in_ok-sessions.ensures)
    c.in_ok-toi.toi c.in_ok-instance.instance c.in_ok-toi.ensures.number
    c.in_ok-instance.ensures.number c.in_ok-memory.ensures (_, c.in_ok-source.ensures.or_zero)
    c.in_err-object.ensures.1))

pub returns-then-inputs-gt-MAX_INPUTS : goal.returns-then-inputs-gt-MAX_INPUTS
returns-then-inputs-gt-MAX_INPUTS c =
    let rows = found_rows c.args.matches.now in
    let are = words_read c.args.matches.now _ c.get_strs.result _ c.unwrap_or-inputs.result
    c.get_strs.ensures c.unwrap_or-inputs.ensures refl in
    let scope = right_scope rows c.in_ok-toi.toi c.in_ok-instance.instance
    c.in_ok-toi.ensures.number c.in_ok-instance.ensures.number c.in_ok-sessions.sessions
    c.in_ok-object.object c.flag.result c.in_ok-sessions.ensures c.in_ok-object.ensures
    c.flag.ensures in
    not_joined rows c.word-without.result c.word-without.ensures c.unwrap_or-inputs.result.now are TooManyInputs scope
    c.in_ok-memory.ensures (_, c.in_ok-source.ensures.or_zero)
    (too_many rows c.word-without.result c.word-without.ensures c.unwrap_or-inputs.result.now are
    c.if-inputs-gt-MAX_INPUTS.true)

pub returns-in_err-standard_once_beside : goal.returns-in_err-standard_once_beside
returns-in_err-standard_once_beside c =
    let rows = found_rows c.args.matches.now in
    let are = words_read c.args.matches.now _ c.get_strs.result _ c.unwrap_or-inputs.result
    c.get_strs.ensures c.unwrap_or-inputs.ensures refl in
    let scope = right_scope rows c.in_ok-toi.toi c.in_ok-instance.instance
    c.in_ok-toi.ensures.number c.in_ok-instance.ensures.number c.in_ok-sessions.sessions
    c.in_ok-object.object c.flag.result c.in_ok-sessions.ensures c.in_ok-object.ensures
    c.flag.ensures in
    let fault = c.in_err-standard_once_beside.field-0.0 in
    handed_on c.from_residual-in_err-standard_once_beside.result fault _ _
    c.from_residual-in_err-standard_once_beside.ensures.1
    (not_joined rows c.word-without.result c.word-without.ensures c.unwrap_or-inputs.result.now are fault scope
    c.in_ok-memory.ensures (_, c.in_ok-source.ensures.or_zero)
    (twice rows c.word-without.result c.word-without.ensures c.unwrap_or-inputs.result.now are fault (omega arith)
    c.in_err-standard_once_beside.ensures))

pub returns-in_err-to_vec : goal.returns-in_err-to_vec
returns-in_err-to_vec c =
    let rows = found_rows c.args.matches.now in
    let are = words_read c.args.matches.now _ c.get_strs.result _ c.unwrap_or-inputs.result
    c.get_strs.ensures c.unwrap_or-inputs.ensures refl in
    let scope = right_scope rows c.in_ok-toi.toi c.in_ok-instance.instance
    c.in_ok-toi.ensures.number c.in_ok-instance.ensures.number c.in_ok-sessions.sessions
    c.in_ok-object.object c.flag.result c.in_ok-sessions.ensures c.in_ok-object.ensures
    c.flag.ensures in
    handed_on c.from_residual-in_err-to_vec.result OutOfMemory _ _
    c.from_residual-in_err-to_vec.ensures.1
    (not_joined rows c.word-without.result c.word-without.ensures c.unwrap_or-inputs.result.now are OutOfMemory scope
    c.in_ok-memory.ensures (_, c.in_ok-source.ensures.or_zero)
    (no_memory rows c.word-without.result c.word-without.ensures c.unwrap_or-inputs.result.now are (omega arith)
    c.in_ok-standard_once_beside.ensures))

pub returns : goal.returns
returns c =
    let rows = found_rows c.args.matches.now in
    let are = words_read c.args.matches.now _ c.get_strs.result _ c.unwrap_or-inputs.result
    c.get_strs.ensures c.unwrap_or-inputs.ensures refl in
    let same : c.in_ok-to_vec.field-0.items ≡ c.unwrap_or-inputs.result.now =
    c.in_ok-to_vec.ensures.items_if_clones_equal (search rules) in (
      refl,
      record {
        target = c.journal_target.ensures;
        limit = c.limit_of.ensures;
        memory = c.in_ok-memory.ensures;
        sender = rw (c.unwrap_or-sender.ensures, c.new.ensures) c.in_ok-source.ensures.or_zero;
        scope =
            right_scope rows c.in_ok-toi.toi c.in_ok-instance.instance c.in_ok-toi.ensures.number
            c.in_ok-instance.ensures.number c.in_ok-sessions.sessions c.in_ok-object.object
            c.flag.result c.in_ok-sessions.ensures c.in_ok-object.ensures c.flag.ensures;
        reasons = c.flag-2.ensures;
        inputs = inputs_taken rows c.word-without.result c.word-without.ensures
            c.unwrap_or-inputs.result.now are _ same;
        without = c.word-without.ensures;
        once = once_of_all rows c.word-without.result c.word-without.ensures c.unwrap_or-inputs.result.now are
            c.in_ok-standard_once_beside.ensures;
      },
    )
