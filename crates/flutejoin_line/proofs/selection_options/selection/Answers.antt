-- selection: the faults of the options that select.
use Rattle.std.proofs.Common.{subst, sym}
use Rattle.flute_streams.specs.Sessions.{listed_tsis}
use Rattle.flutejoin_line.specs.Options.{found_rows}
use Rattle.flutejoin_line.specs.Selecting.{IsSelectionFault}
use Rattle.flutejoin_line.proofs.Options.{handed_on}
use Rattle.flutejoin_line.proofs.Selecting.{wrong_instance, wrong_key, wrong_object}
use Rattle.flutejoin_line.proofs.Selecting.{wrong_symbol, wrong_toi}
use Rattle.flutejoin_line.proofs.selection_options.selection.Goals as goal

pub returns-in_err-toi : goal.returns-in_err-toi
returns-in_err-toi c =
    let rows = found_rows c.args.matches.now in
    handed_on c.from_residual-in_err-toi.result c.in_err-toi.field-0.0 _ _
    c.from_residual-in_err-toi.ensures.1
    (wrong_object rows (listed_tsis c.in_ok-sessions.sessions) c.in_ok-sessions.ensures
    c.in_err-toi.field-0.0 (wrong_toi rows c.in_err-toi.field-0.0 c.in_err-toi.ensures.number.0
    c.in_err-toi.ensures.number.1 c.in_err-toi.ensures.number.2))

pub returns-in_err-instance : goal.returns-in_err-instance
returns-in_err-instance c =
    let rows = found_rows c.args.matches.now in
    handed_on c.from_residual-in_err-instance.result c.in_err-instance.field-0.0 _ _
    c.from_residual-in_err-instance.ensures.1
    (wrong_object rows (listed_tsis c.in_ok-sessions.sessions) c.in_ok-sessions.ensures
    c.in_err-instance.field-0.0 (wrong_instance rows c.in_ok-toi.toi c.in_ok-toi.ensures.number
    c.in_err-instance.field-0.0 c.in_err-instance.ensures.number.0
    c.in_err-instance.ensures.number.1 c.in_err-instance.ensures.number.2))

pub returns-in_err-symbol : goal.returns-in_err-symbol
returns-in_err-symbol c =
    handed_on c.from_residual-in_err-symbol.result c.in_err-symbol.field-0.0 _ _
    c.from_residual-in_err-symbol.ensures.1
    (wrong_symbol (found_rows c.args.matches.now) (listed_tsis c.in_ok-sessions.sessions)
    c.in_ok-sessions.ensures c.in_ok-toi.toi c.in_ok-instance.instance
    c.in_ok-toi.ensures.number c.in_ok-instance.ensures.number
    c.in_err-symbol.field-0.0 c.in_err-symbol.ensures.0 c.in_err-symbol.ensures.1)

pub returns-in_err-object : goal.returns-in_err-object
returns-in_err-object c =
    handed_on c.from_residual-in_err-object.result c.in_err-object.field-0.0 _ _
    c.from_residual-in_err-object.ensures.1
    (subst (IsSelectionFault (found_rows c.args.matches.now)) (sym c.in_err-object.ensures.0)
    (wrong_key (found_rows c.args.matches.now) (listed_tsis c.in_ok-sessions.sessions)
    c.in_ok-sessions.ensures c.in_ok-toi.toi c.in_ok-instance.instance
    c.in_ok-toi.ensures.number c.in_ok-instance.ensures.number
    c.in_ok-symbol.symbol c.in_ok-sender.sender c.in_ok-symbol.ensures c.in_ok-sender.ensures.sender
    c.in_err-object.ensures.1))
