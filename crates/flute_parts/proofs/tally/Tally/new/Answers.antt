use Rattle.std.proofs.Common.{rules}
use Rattle.flute_parts.proofs.Tallied.{count-nothing}
use Rattle.flute_parts.proofs.tally.Tally.new.Goals as goal

pub returns : goal.returns
returns g c = search (rules, count-nothing)
