-- put_digits_of: the digits so far and those of what is left are those of all; what is left is
-- below 16.
use Rattle.std.proofs.Common.{◌≡◌, ◌<◌, ◌≤◌, ℕ, ◌++◌, take, drop, map, length, slice_index}
use Rattle.hex.specs.Hex.{lower_digits}
use Rattle.flutejoin.proofs.lines.hex_digits.put_digits_of.Given as goal

abbrev pub invariant-loop-i : goal.invariant-loop-i
invariant-loop-i l = record {
  done : take l.i l.halves ++ map (λ half. slice_index lower_digits half) (drop l.i l.halves)
      ≡ map (λ half. slice_index lower_digits half) l.fn.halves;
  below : (k : ℕ) → l.i ≤ k → k < length l.halves → slice_index l.halves k < 16;
}
