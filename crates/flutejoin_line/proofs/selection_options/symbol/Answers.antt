use Rattle.std.proofs.Common.{refl}
use Rattle.flutejoin_line.specs.Options.{found_rows}
use Rattle.flutejoin_line.proofs.Options.{handed_on}
use Rattle.flutejoin_line.proofs.Selecting.{named, no_slash, wrong_block, wrong_id}
use Rattle.flutejoin_line.proofs.selection_options.symbol.Goals as goal

pub returns-in_default-split_once : goal.returns-in_default-split_once
returns-in_default-split_once c = (
  refl,
  no_slash (found_rows c.args.matches.now) c.in-Some.text.now c.in-Some.ensures
      c.in_default-split_once.ensures.cases,
)

pub returns-in_err-sbn : goal.returns-in_err-sbn
returns-in_err-sbn c =
    handed_on c.from_residual.result c.in_err-sbn.field-0.0 _ _ c.from_residual.ensures.1 (
      c.in_err-sbn.ensures.0,
      wrong_block (found_rows c.args.matches.now) c.in-Some.text.now c.in-Some.ensures
          c.in-Some-split_once.block c.in-Some-split_once.symbol c.in-Some-split_once.ensures.cases
          c.in_err-sbn.ensures.1,
    )

pub returns-in_err-esi : goal.returns-in_err-esi
returns-in_err-esi c =
    handed_on c.from_residual-in_err-esi.result c.in_err-esi.field-0.0 _ _
    c.from_residual-in_err-esi.ensures.1 (
      c.in_err-esi.ensures.0,
      wrong_id (found_rows c.args.matches.now) c.in-Some.text.now c.in-Some.ensures
          c.in-Some-split_once.block c.in-Some-split_once.symbol c.in-Some-split_once.ensures.cases
          c.in_err-esi.ensures.1,
    )

pub returns : goal.returns
returns c =
    named (found_rows c.args.matches.now) c.in-Some.text.now c.in-Some.ensures
    c.in-Some-split_once.block c.in-Some-split_once.symbol c.in-Some-split_once.ensures.cases
    c.in_ok-sbn.ensures c.in_ok-esi.ensures
