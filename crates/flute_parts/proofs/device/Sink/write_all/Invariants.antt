-- Sink::write_all: what was taken so far is the front of the bytes.
use Rattle.std.proofs.Common.{◌≡◌, ◌-◌, ◌≤◌, length, take}
use Rattle.std.specs.Io.KnownBytes.{Appends}
use Rattle.flute_parts.proofs.device.Sink.write_all.Given as goal

abbrev pub invariant-loop-written : goal.invariant-loop-written
invariant-loop-written g l = (l.written ≤ length l.bytes) × Appends
    (g.Self.Sink.written l.initial.self) (g.Self.Sink.written l.self) (take l.written l.bytes) ×
    (g.Self.Sink.failures l.self ≡ g.Self.Sink.failures l.initial.self)

abbrev pub decreases-loop-written : goal.decreases-loop-written
decreases-loop-written g l = length l.bytes - l.written
