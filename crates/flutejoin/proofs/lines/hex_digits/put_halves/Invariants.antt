-- put_halves: what is written so far, and the halves of what is left, are those of all bytes.
use Rattle.std.proofs.Common.{◌≡◌, ◌*◌, ◌++◌, take, drop}
use Rattle.flutejoin.specs.Digits.{halves}
use Rattle.flutejoin.proofs.lines.hex_digits.put_halves.Given as goal

abbrev pub invariant-loop-i : goal.invariant-loop-i
invariant-loop-i l = take (2 * l.i) l.room ++ halves (drop l.i l.bytes) ≡ halves l.bytes
