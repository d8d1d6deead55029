-- One fact as a stream.
use Rattle.std.specs.Prelude.{[]}
use Rattle.std.specs.List.{AllByRecursion}
use Rattle.flute_store.specs.Walk.{IsSized}
use Rattle.flute_journal.specs.HeldEntries.{fact_held}
use Rattle.flute_streams.specs.declared.streams.fact_stream.FactStream.{FactStream}
use Rattle.flute_streams.specs.Streams.{Behaviour, option_list}
use Rattle.flute_streams.specs.Listed.{listed_behaviour}

-- how a stream of one fact behaves
abbrev pub fact_behaviour : Behaviour FactStream
fact_behaviour =
    listed_behaviour (λ s. fact_held [] s.held) (λ s. option_list s.next)
    (λ s. AllByRecursion IsSized (option_list s.next))
