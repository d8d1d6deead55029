-- minus_is_what_a_join_needs: the laws (src/laws.rt), of lookups and of journals.
use Rattle.flute_streams.proofs.Common.{◌++◌, Same-sym}
use Rattle.flute_streams.specs.Minus.{minus}
use Rattle.flute_streams.proofs.streams_lemmas.MinusLaws.{enough, left_out, none_after, not_twice}
use Rattle.flute_streams.proofs.streams_lemmas.MinusLaws.{once}
use Rattle.flute_streams.proofs.streams_lemmas.SameJournals.{of_others}
use Rattle.flute_streams.proofs.laws.minus_is_what_a_join_needs.Goals as goal

pub returns-clause-exact : goal.returns-clause-exact
returns-clause-exact c = left_out

pub returns-clause-enough : goal.returns-clause-enough
returns-clause-enough c = enough

pub returns-clause-bytes : goal.returns-clause-bytes
returns-clause-bytes c v facts held bytes =
    let same = enough facts held in (
      of_others v bytes (held ++ minus facts held) (held ++ facts)
          (Same-sym (held ++ minus facts held) (held ++ facts) same),
      of_others v bytes (held ++ facts)
          (held ++ minus facts held) same,
    )

pub returns-clause-held : goal.returns-clause-held
returns-clause-held c = not_twice

pub returns-clause-after : goal.returns-clause-after
returns-clause-after c = none_after

pub returns-clause-again : goal.returns-clause-again
returns-clause-again c = once
