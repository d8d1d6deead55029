use Rattle.std.proofs.Common.{subst, List, ℕ}
use Rattle.flute_parts.specs.Devices.{Writes}
use Rattle.flutejoin_replicas.proofs.gaps.write_gap.Goals as goal

pub returns-clause-line : goal.returns-clause-line
returns-clause-line g c =
    subst (λ (x : List ℕ). Writes (g.W.Sink.written c.args.sink.now)
    (g.W.Sink.written c.write_words.new.sink) x c.write_words.result) c.gap_text.ensures.line
    c.write_words.ensures.line
