use Rattle.std.proofs.Common.{rules}
use Rattle.flute_streams.proofs.Common.{◌≡◌, fact_in}
use Rattle.flute_streams.proofs.streams_lemmas.ListedFacts.{walk_goes_on}
use Rattle.flute_streams.specs.WalkStreams.{held_fact}
use Rattle.flute_streams.proofs.streams.walk_stream.WalkStreamStream.advance.Goals.{in-Some, in-None}
use Rattle.flute_streams.proofs.streams.walk_stream.WalkStreamStream.advance.Goals as goal

pub returns-clause-goes_on : goal.returns-clause-goes_on
returns-clause-goes_on g c =
    let held : held_fact c.match-next.self ≡ fact_in c.next.result = search rules in
    walk_goes_on _ _ c.args.self.now _ c.next.result c.next.ensures.steps held
