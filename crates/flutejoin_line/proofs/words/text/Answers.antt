use Rattle.std.proofs.Common.{ap, ◌∙◌, [], unwrap_or, Option, List, ℕ}
use Rattle.flutejoin_line.proofs.CommandWords.{word_or}
use Rattle.flutejoin_line.proofs.words.text.Goals as goal

pub returns : goal.returns
returns c =
    ap (λ w. w.now) c.unwrap_or.ensures
    ∙ word_or c.word.result _
    ∙ ap (λ (o : Option (List ℕ)). unwrap_or o []) c.word.ensures
