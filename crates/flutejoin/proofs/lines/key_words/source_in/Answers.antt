-- source_in: the sender before a session, and what follows.
use Rattle.std.proofs.Common.{◌++◌, codes, arith, ap, ◌∙◌}
use Rattle.byteorder.specs.Endian.{big_from}
use Rattle.flutejoin.proofs.info_lemmas.LinePieces.{source_rest}
use Rattle.flutejoin.proofs.info_lemmas.LineSenders.{long_enough, digits_front, digits_back}
use Rattle.flutejoin.proofs.info_lemmas.LineSenders.{digits_decoded}
use Rattle.flutejoin.proofs.info_lemmas.LineSenders.{read_back}
use Rattle.flutejoin.proofs.lines.key_words.source_in.Goals as goal

pub returns-then-rest-lt32 : goal.returns-then-rest-lt32
returns-then-rest-lt32 c = record {
  finds = λ n tail small is. let later = codes " " ++ (codes "session " ++ tail) in
      let r = source_rest _ _ _ n is c.in-Some.ensures.found
      in omega (arith, long_enough _ _ n r);
}

pub returns-in-Some-after : goal.returns-in-Some-after
returns-in-Some-after c = record {
  finds = λ n tail small is. let later = codes " " ++ (codes "session " ++ tail) in
      let r = source_rest _ _ _ n is c.in-Some.ensures.found in
      let front = c.split_at.ensures.front ∙ digits_front _ _ n r in
      let decoded = rw (front, digits_decoded n) at c.decode_to_slice.ensures.value in
      let back = c.split_at.ensures.back ∙ digits_back _ _ n r in (
        c.read_u128.ensures ∙ ap (big_from 0 16) decoded.1 ∙ read_back n small,
        c.in-Some-after.ensures.finds (codes "session " ++ tail) back,
      );
}

pub returns-in-None : goal.returns-in-None
returns-in-None c = record {
  finds = λ n tail small is. let later = codes " " ++ (codes "session " ++ tail) in
      let r = source_rest _ _ _ n is c.in-Some.ensures.found in
      let back = c.split_at.ensures.back ∙ digits_back _ _ n r in
      c.in-None.ensures.finds (codes "session " ++ tail) back;
}

pub returns-in-Err : goal.returns-in-Err
returns-in-Err c = record {
  finds = λ n tail small is. let later = codes " " ++ (codes "session " ++ tail) in
      let r = source_rest _ _ _ n is c.in-Some.ensures.found in
      let front = c.split_at.ensures.front ∙ digits_front _ _ n r in
      let decoded = rw (front, digits_decoded n) at c.decode_to_slice.ensures.value in
      let refused = c.in-Err.is in
      cc (decoded.0);
}
