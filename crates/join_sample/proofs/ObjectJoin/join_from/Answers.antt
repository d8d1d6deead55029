use Rattle.flute_join.proofs.Public.{below_join, below_self}
use Rattle.join_sample.specs.Object.{maps}
use Rattle.join_sample.proofs.ObjectJoin.join_from.Goals as goal

pub returns-in_err-join_from-clause-above_old : goal.returns-in_err-join_from-clause-above_old
returns-in_err-join_from-clause-above_old g c =
    λ i. record {
      info = c.join_from.ensures.above_old i;
      symbols =
          below_self maps c.args.self.now.symbols i;
    }

pub returns-in_err-join_from-clause-below_join : goal.returns-in_err-join_from-clause-below_join
returns-in_err-join_from-clause-below_join g c =
    λ i. record {
      info = c.join_from.ensures.below_join i;
      symbols =
          below_join maps c.args.self.now.symbols c.args.other.now.symbols i;
    }
