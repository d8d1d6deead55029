-- information_in: the three numbers of information, and when a text has none.
use Rattle.std.proofs.Common.{[], ◌++◌, codes, ap, refl, ◌∙◌, arith}
use Rattle.flutejoin.proofs.info_lemmas.LinePieces.{from_block, from_symbol, information_chain}
use Rattle.flutejoin.proofs.info_lemmas.LinePieces.{same_numbers}
use Rattle.flutejoin.proofs.info.information_line.information_in.Goals as goal
use Rattle.flutejoin.proofs.info.information_line.information_in.Goals.{else-length-via-then-length+then-symbol+else-block}
use Rattle.flutejoin.proofs.info.information_line.information_in.Goals.{else-length-via-then-length+else-symbol}
use Rattle.flutejoin.proofs.info.information_line.information_in.Goals.{else-length-via-else-length}

pub returns-in_default : goal.returns-in_default
returns-in_default c = record {
  finds = λ info fields is. c.in_default.ensures.finds info.transfer_length (from_symbol info)
      (omega (arith, fields.0)) refl (is ∙ ap (λ x. codes " " ++ x) (information_chain _));
}

pub returns-in_default-number_after : goal.returns-in_default-number_after
returns-in_default-number_after c = record {
  finds = λ info fields is.
      let a = c.in-Some.ensures.finds info.transfer_length (from_symbol info)
      (omega (arith, fields.0)) refl (is ∙ ap (λ x. codes " " ++ x) (information_chain _)) in
      c.in_default-number_after.ensures.finds info.symbol_length (from_block info)
      (omega (arith, fields.1.0)) refl a.1;
}

pub returns-in_default-number_after-2 : goal.returns-in_default-number_after-2
returns-in_default-number_after-2 c = record {
  finds = λ info fields is. let a = c.in-Some.ensures.finds info.transfer_length
      (from_symbol info) (omega (arith, fields.0)) refl
      (is ∙ ap (λ x. codes " " ++ x) (information_chain _)) in
      let b = c.in-Some-number_after.ensures.finds info.symbol_length (from_block info)
      (omega (arith, fields.1.0)) refl a.1 in c.in_default-number_after-2.ensures.finds
      info.max_block_length [] (omega (arith, fields.1.1)) refl b.1;
}

pub returns-then-block : goal.returns-then-block
returns-then-block c = record {
  finds = λ info fields is. let a = c.in-Some.ensures.finds info.transfer_length
      (from_symbol info) (omega (arith, fields.0)) refl
      (is ∙ ap (λ x. codes " " ++ x) (information_chain _)) in
      let b = c.in-Some-number_after.ensures.finds info.symbol_length (from_block info)
      (omega (arith, fields.1.0)) refl a.1 in
      let d = c.in-Some-number_after-2.ensures.finds info.max_block_length []
      (omega (arith, fields.1.1)) refl b.1 in same_numbers _ _ a.0 b.0 d.0;
}

pub returns-else-length : goal.returns-else-length
returns-else-length c = record {
  finds = λ info fields is. let a = c.in-Some.ensures.finds info.transfer_length
      (from_symbol info) (omega (arith, fields.0)) refl
      (is ∙ ap (λ x. codes " " ++ x) (information_chain _)) in
      let b = c.in-Some-number_after.ensures.finds info.symbol_length (from_block info)
      (omega (arith, fields.1.0)) refl a.1 in
      let d = c.in-Some-number_after-2.ensures.finds info.max_block_length []
      (omega (arith, fields.1.1)) refl b.1 in elim c.else-length.branch [
        | else-length-via-then-length+then-symbol+else-block w ↦ omega
            (arith, d.0, fields.1.1, w.if-block.false)
        | else-length-via-then-length+else-symbol w ↦ omega
            (arith, b.0, fields.1.0, w.if-symbol.false)
        | else-length-via-else-length w ↦ omega (arith, a.0, fields.0, w.if-length.false)
      ];
}
