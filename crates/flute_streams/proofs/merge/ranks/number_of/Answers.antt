use Rattle.std.proofs.Common.{rules}
use Rattle.flute_streams.proofs.Common.{sym, ◌∙◌}
use Rattle.flute_streams.proofs.merge_lemmas.RankFacts.{rank-info, rank-symbol}
use Rattle.flute_streams.proofs.merge.ranks.number_of.Goals as goal

pub returns-in-Info-clause-part : goal.returns-in-Info-clause-part
returns-in-Info-clause-part c = rank-info ∙ sym c.in-Info.is

pub returns-in-Symbol-clause-part : goal.returns-in-Symbol-clause-part
returns-in-Symbol-clause-part c = search (rules, rank-symbol)
