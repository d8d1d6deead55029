-- stands_at: the stream is where its address was read.
use Rattle.flute_streams.proofs.Common.{address_of, arith}
use Rattle.flute_streams.proofs.merge_lemmas.Places.{read-at}
use Rattle.std.proofs.lemmas.Grind.{common_steps}
use Rattle.flute_streams.proofs.merge.advance.stands_at.Goals as goal

pub returns-in-Some-Some-clause-at : goal.returns-in-Some-Some-clause-at
returns-in-Some-Some-clause-at g c =
    let at = read-at g.G.Streams.behaviour (g.G.Streams.streams c.args.streams.now) c.args.number
    address_of c.requires.number c.address.ensures in grind (arith, common_steps)

pub returns-in_default-clause-elsewhere : goal.returns-in_default-clause-elsewhere
returns-in_default-clause-elsewhere g c =
    let at = read-at g.G.Streams.behaviour (g.G.Streams.streams c.args.streams.now) c.args.number
    address_of c.requires.number c.address.ensures in grind (arith, common_steps)
