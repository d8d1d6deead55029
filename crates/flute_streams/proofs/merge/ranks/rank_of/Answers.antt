-- rank_of: the rank of a fact of that object.
use Rattle.std.proofs.Common.{rules}
use Rattle.flute_journal.proofs.Public.{key-same}
use Rattle.flute_streams.proofs.merge_lemmas.RankFacts.{from-part, same_place}
use Rattle.flute_streams.proofs.merge.ranks.rank_of.Goals as goal

pub returns-then-eq : goal.returns-then-eq
returns-then-eq c = search (rules, key-same, from-part, same_place)
