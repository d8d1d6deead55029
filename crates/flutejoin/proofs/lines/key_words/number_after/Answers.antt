-- number_after: the number after some words, and when there is none.
use Rattle.std.proofs.Common.{◌++◌, ◌∙◌, decimal, sym, subst, arith}
use Rattle.std.specs.Str.{IsUtf8}
use Rattle.std.proofs.lemmas.Fmt.{parse-decimal_wide}
use Rattle.flutejoin.proofs.info_lemmas.LineNumbers.{DigitsOf, digits_end, number_front}
use Rattle.flutejoin.proofs.info_lemmas.LineNumbers.{number_back}
use Rattle.flutejoin.proofs.info_lemmas.LineNumbers.{some_digits, utf8_decimal, wide}
use Rattle.flutejoin.proofs.lines.key_words.number_after.Goals as goal

pub returns-then-len-eq0 : goal.returns-then-len-eq0
returns-then-len-eq0 c = record {
  found = tt;
  finds = λ n tail small ends whole. let is = c.in-Some.ensures.finds (decimal n ++ tail) whole
      in
      let len = c.digits_len-len.result in
      let d : DigitsOf c.in-Some.rest.now len = record {
        within = c.digits_len-len.ensures.within;
        before = c.digits_len-len.ensures.before;
        stops = c.digits_len-len.ensures.stops;
      } in omega (arith, digits_end _ _ n _ small ends is d, some_digits n small);
}

pub returns-in_default-from_utf8 : goal.returns-in_default-from_utf8
returns-in_default-from_utf8 c = record {
  found = tt;
  finds = λ n tail small ends whole.
      let is = c.in-Some.ensures.finds (decimal n ++ tail) whole in
      let len = c.digits_len-len.result in
      let d : DigitsOf c.in-Some.rest.now len = record {
        within = c.digits_len-len.ensures.within;
        before = c.digits_len-len.ensures.before;
        stops = c.digits_len-len.ensures.stops;
      } in
      let e = digits_end _ _ n _ small ends is d in
      let front = c.split_at.ensures.front ∙ number_front _ _ n _ is e in
      c.in_default-from_utf8.ensures.cases.0 (subst IsUtf8 (sym front) (utf8_decimal n small));
}

pub returns-in-Ok-parse : goal.returns-in-Ok-parse
returns-in-Ok-parse c = record {
  found = (c.in-Some.rest.now, c.in-Some.ensures.found);
  finds = λ n tail small ends whole. let is = c.in-Some.ensures.finds (decimal n ++ tail) whole
      in
      let len = c.digits_len-len.result in
      let d : DigitsOf c.in-Some.rest.now len = record {
        within = c.digits_len-len.ensures.within;
        before = c.digits_len-len.ensures.before;
        stops = c.digits_len-len.ensures.stops;
      } in
      let e = digits_end _ _ n _ small ends is d in
      let front = c.split_at.ensures.front ∙ number_front _ _ n _ is e in
      let read = parse-decimal_wide 128 n _ _ small (wide n small)
      (c.in-Ok.ensures.cases.0 ∙ front) c.parse.ensures.value.0 in
      (cc, c.split_at.ensures.back ∙ number_back _ _ n _ is e);
}

pub returns-in-Err : goal.returns-in-Err
returns-in-Err c = record {
  found = tt;
  finds = λ n tail small ends whole. let is = c.in-Some.ensures.finds (decimal n ++ tail) whole
      in
      let len = c.digits_len-len.result in
      let d : DigitsOf c.in-Some.rest.now len = record {
        within = c.digits_len-len.ensures.within;
        before = c.digits_len-len.ensures.before;
        stops = c.digits_len-len.ensures.stops;
      } in
      let e = digits_end _ _ n _ small ends is d in
      let front = c.split_at.ensures.front ∙ number_front _ _ n _ is e in
      let read = parse-decimal_wide 128 n _ _ small (wide n small)
      (c.in-Ok.ensures.cases.0 ∙ front) c.parse.ensures.value.0 in
      let bad = c.in-Err.is in
      cc;
}
