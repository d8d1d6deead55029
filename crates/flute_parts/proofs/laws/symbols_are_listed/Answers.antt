use Rattle.std.proofs.Common.{rules}
use Rattle.flute_parts.proofs.Split.{places-inverse, ids_rise, ids_follow, ids_counted}
use Rattle.flute_parts.proofs.Fits.{fits-means}
use Rattle.flute_parts.proofs.Division.{fault-none, none-fault}
use Rattle.flute_parts.proofs.laws.symbols_are_listed.Goals as goal

pub returns : goal.returns
returns c = search
    (rules, places-inverse, ids_rise, ids_follow, ids_counted, fits-means, fault-none, none-fault)
