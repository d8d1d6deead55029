use Rattle.flute_streams.proofs.Common.{◌+◌, ap, sym, ◌∙◌}
use Rattle.std.specs.Prelude.{min}
use Rattle.flute_streams.proofs.streams_lemmas.Chaining.{chained_many}
use Rattle.flute_streams.proofs.streams.chained.ChainedStreams.count.Goals as goal

pub returns : goal.returns
returns g c = ap (λ n. n + 1) (c.min.ensures ∙ ap (λ n. min n 65535) c.count.ensures) ∙ sym
    (chained_many _ _ c.args.self.now.first.now (g.G.Streams.streams c.args.self.now.others))
