-- push_named: a number of 64 bits has at most 20 digits.
use Rattle.std.proofs.Common.{arith, ap, decimal, length, length-append}
use Rattle.std.proofs.lemmas.Fmt.{length-decimal-le}
use Rattle.flutejoin.proofs.lines.text.Text.push_named.Goals as goal

pub returns-clause-len : goal.returns-clause-len
returns-clause-len c =
    let fits = c.ranges.number in
    let digits = length-decimal-le 20 c.args.number (omega arith) (omega (arith, fits))
    (omega (arith, fits)) in
    omega (
      arith,
      ap length c.push_number.ensures.text,
      length-append c.push.new.self (decimal c.args.number),
      digits,
      c.push.ensures.len,
    )
