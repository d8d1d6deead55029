use Rattle.std.proofs.Common.{rules}
use Rattle.flute_wire.proofs.Cut.{cut-ids, cut-joined, cut-fit, cut-one}
use Rattle.flute_wire.proofs.Pieces.{facts_are_sent}
use Rattle.flute_wire.proofs.DatagramFacts.{told-iff}
use Rattle.flute_wire.proofs.laws.an_object_is_told_by_its_datagrams.Goals as goal

pub returns : goal.returns
returns c = search (rules, cut-ids, cut-joined, cut-fit, cut-one, told-iff, facts_are_sent)
