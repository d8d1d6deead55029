-- lowest_held: the lowest of the first streams.
use Rattle.flute_streams.proofs.Common.{IfSome, IsLowest, heads, take}
use Rattle.flute_streams.specs.Lowest.{Stands, value_of}
use Rattle.flute_streams.proofs.merge.lowest.lowest_held.Given as goal

abbrev pub invariant-loop-number : goal.invariant-loop-number
invariant-loop-number g l = record {
  lowest :
      IsLowest (heads g.G.Streams.behaviour (take l.number (g.G.Streams.streams l.streams)))
      (value_of g.G.Streams.behaviour (g.G.Streams.streams l.streams) l.lowest);
  stands : IfSome l.lowest (Stands g.G.Streams.behaviour (g.G.Streams.streams l.streams));
}
