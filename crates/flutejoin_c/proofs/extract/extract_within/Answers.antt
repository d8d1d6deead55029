-- extract_within: what is written of the object, or why not.
use Rattle.std.proofs.Common.{ℕ, List, Option, Some, subst}
use Rattle.flutejoin.specs.Extract.{AnswersFrom, Extracts}
use Rattle.flutejoin.specs.Limits.{at_most}
use Rattle.flutejoin_c.proofs.Extracted.{extracted, not_extracted}
use Rattle.flutejoin_c.proofs.extract.extract_within.Goals as goal

pub returns-clause-extracted : goal.returns-clause-extracted
returns-clause-extracted g c =
    let most = at_most g.row.SESSIONS g.row.OBJECTS g.row.SYMBOLS in
    let a = c.args in
    let left : Option (List ℕ) = Some c.extract_to.new.source.unread.now in
    let r = c.extract_to.result in
    let written : _ → Option (List ℕ) = λ s. Some s.bytes.items in
    extracted written most a.journal.now left a.key.now a.sink.now c.extract_to.new.sink r
    (subst (λ u. AnswersFrom most u left
    (λ F. Extracts written F a.key.now a.sink.now c.extract_to.new.sink r) r)
    c.new-source.ensures.bytes c.extract_to.ensures.extracts)

pub returns-clause-failed : goal.returns-clause-failed
returns-clause-failed g c =
    let most = at_most g.row.SESSIONS g.row.OBJECTS g.row.SYMBOLS in
    let a = c.args in
    let left : Option (List ℕ) = Some c.extract_to.new.source.unread.now in
    let r = c.extract_to.result in
    let written : _ → Option (List ℕ) = λ s. Some s.bytes.items in
    not_extracted written most a.journal.now left a.key.now a.sink.now c.extract_to.new.sink r
    (subst (λ u. AnswersFrom most u left
    (λ F. Extracts written F a.key.now a.sink.now c.extract_to.new.sink r) r)
    c.new-source.ensures.bytes c.extract_to.ensures.extracts)
