use Rattle.flute_streams.proofs.Common.{◌≡◌, arith, ap, sym, ◌∙◌, length}
use Rattle.std.specs.Prelude.{min}
use Rattle.flute_streams.specs.Chains.{taken}
use Rattle.flute_streams.proofs.streams_lemmas.Besides.{beside_many, taken_count}
use Rattle.flute_streams.proofs.streams.both.BothStreams.count.Goals as goal

pub returns : goal.returns
returns g c =
    let first = g.G.Streams.streams c.args.self.now.first.now in
    let second = g.H.Streams.streams c.args.self.now.second in
    let others : c.min.result ≡ length (taken second) =
    c.min.ensures ∙ ap (λ n. min n 65535) c.count.ensures ∙ sym (taken_count second) in
    omega (arith, c.first_count.ensures, others, beside_many (taken first) (taken second))

pub overflow_add-result : goal.overflow_add-result
overflow_add-result g c =
    omega (
      arith,
      c.first_count.ensures,
      c.min.ensures,
      taken_count (g.G.Streams.streams c.args.self.now.first.now),
    )
