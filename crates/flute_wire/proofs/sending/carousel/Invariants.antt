-- carousel: the packets before the place were written, so the first can be.
use Rattle.std.proofs.Common.{◌≡◌, ◌<◌, take, Some, None}
use Rattle.std.specs.Prelude.{slice_get}
use Rattle.std.specs.List.{AllZip}
use Rattle.flute_wire.specs.Carousel.{packets_of, symbols_of}
use Rattle.flute_wire.specs.Writing.{IsWritten, packet_at, write_fault}
use Rattle.flute_wire.proofs.sending.carousel.Given as goal

abbrev pub invariant-loop-place : goal.invariant-loop-place
invariant-loop-place l = AllZip IsWritten l.datagrams.items
    (take l.place (packets_of l.key l.info l.content)) × (0 < l.place → write_fault
    (packet_at l.key (Some l.info) (slice_get (symbols_of l.info l.content) 0)) ≡ None)
