-- write_hex_line: what was written after the words are the digits of the bytes before the
-- rest.
use Rattle.std.proofs.Common.{◌≡◌, length, List, ℕ, ◌++◌}
use Rattle.std.specs.Io.KnownBytes.{Appends}
use Rattle.hex.specs.Hex.{encode_lower}
use Rattle.flutejoin.proofs.lines.hex_digits.write_hex_line.Given as goal

abbrev pub invariant-loop-rest : goal.invariant-loop-rest
invariant-loop-rest g l = (length l.digits ≡ 1024) × ((front : List ℕ) × (l.bytes ≡ front ++ l.rest)
    × Appends (g.W.Sink.written l.initial.sink) (g.W.Sink.written l.sink) (encode_lower front)) ×
    (g.W.Sink.failures l.sink ≡ g.W.Sink.failures l.initial.sink)

abbrev pub decreases-loop-rest : goal.decreases-loop-rest
decreases-loop-rest g l = length l.rest
