use Rattle.flute_streams.proofs.Common.{ap, sym, ◌∙◌}
use Rattle.std.specs.Prelude.{min}
use Rattle.flute_streams.proofs.streams_lemmas.Besides.{taken_count}
use Rattle.flute_streams.proofs.streams.both.Both.first_count.Goals as goal

pub returns : goal.returns
returns g c = c.min.ensures ∙ ap (λ n. min n 65535) c.count.ensures ∙ sym
    (taken_count (g.G.Streams.streams c.args.self.now.first.now))
