use Rattle.std.proofs.lemmas.Bool.Decides.{Decides-eqb}
use Rattle.std.proofs.lemmas.Slice.Eq.{strip_prefix_is}
use Rattle.flutejoin.proofs.info_lemmas.LineNumbers.{strip_found, strip_finds}
use Rattle.flutejoin.proofs.lines.key_words.rest_after.Goals as goal

pub returns-clause-found : goal.returns-clause-found
returns-clause-found c = strip_found _ _ _
    (strip_prefix_is Decides-eqb _ _ _ c.strip_prefix.ensures.cases)

pub returns-clause-finds : goal.returns-clause-finds
returns-clause-finds c = λ tail is. strip_finds _ _ _ _
    (strip_prefix_is Decides-eqb _ _ _ c.strip_prefix.ensures.cases) is
