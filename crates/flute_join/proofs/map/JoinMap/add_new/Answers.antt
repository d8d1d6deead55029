use Rattle.std.proofs.Common.{rules}
use Rattle.std.proofs.Common.{sym, ◌∙◌, subst}
use Rattle.flute_join.specs.JoinMap.{EachValue}
use Rattle.flute_join.proofs.Single.{single_new, none_from_IsNone}
use Rattle.flute_join.proofs.Sound.{each-insert_entry}
use Rattle.flute_join.proofs.map.JoinMap.add_new.Goals as goal

pub returns-in-Ok-clause-joins : goal.returns-in-Ok-clause-joins
returns-in-Ok-clause-joins g c = search (rules, single_new, none_from_IsNone)

pub returns-in-Ok-clause-each : goal.returns-in-Ok-clause-each
returns-in-Ok-clause-each g c = search (rules, each-insert_entry)
