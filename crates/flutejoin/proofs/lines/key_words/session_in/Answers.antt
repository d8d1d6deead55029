use Rattle.std.proofs.lemmas.Grind.{common_steps}
use Rattle.std.proofs.Common.{rules}
use Rattle.std.proofs.Common.{◌++◌, decimal, arith}
use Rattle.flutejoin.proofs.lines.key_words.session_in.Goals as goal

pub returns-in_default : goal.returns-in_default
returns-in_default c = record {
  finds = λ s tail valid ends is. c.in_default.ensures.finds s.sender
      (decimal s.tsi ++ tail) valid.0 is;
}

pub returns-in-Some-number_after : goal.returns-in-Some-number_after
returns-in-Some-number_after c = record {
  finds = λ s tail valid ends is.
      let a = c.in-Some.ensures.finds s.sender (decimal s.tsi ++ tail) valid.0 is in
      let b = c.in-Some-number_after.ensures.finds s.tsi tail (omega (arith, valid.1)) ends a.1 in
      (a.0, b.0, b.1);
}

pub returns-in-None : goal.returns-in-None
returns-in-None c = record {
  finds = λ s tail valid ends is.
      let a = c.in-Some.ensures.finds s.sender (decimal s.tsi ++ tail) valid.0 is in
      c.in-None.ensures.finds s.tsi tail (omega (arith, valid.1)) ends a.1;
}
