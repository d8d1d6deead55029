-- merging_merged_is_merging_all: the law (src/laws.rt), by the facts of each group's journal.
use Rattle.flute_streams.proofs.Common.{List, [], ◌∷◌, Same, Fact, Same-itself}
use Rattle.flute_streams.proofs.Common.{Same-sym, Same-append, Collects}
use Rattle.flute_streams.proofs.Common.{Each, all_of}
use Rattle.flute_streams.proofs.streams_lemmas.SameJournals.{of_others}
use Rattle.flute_streams.proofs.laws.merging_merged_is_merging_all.Goals as goal

all_same : (groups joined : List (List Fact)) → Each Collects groups joined
    → Same (all_of groups) (all_of joined)
all_same [] [] h = Same-itself []
all_same [] (E ∷ joined) h = absurd h
all_same (F ∷ groups) [] h = absurd h
all_same (F ∷ groups) (E ∷ joined) h = Same-append F E _ _ h.0.same (all_same groups joined h.1)

pub returns : goal.returns
returns c v groups joined h bytes =
    let same = all_same groups joined h in (
      of_others v bytes (all_of joined) (all_of groups) same,
      of_others v bytes (all_of groups)
          (all_of joined) (Same-sym (all_of groups) (all_of joined) same),
    )
