-- extract_to: the clauses for each result, from what read_into left in the writer.
use Rattle.std.proofs.Common.{◌≡◌, ℕ, List, Option, Result, Err, ◌∙◌, subst, rules}
use Rattle.flute_parts.specs.Facts.{Same}
use Rattle.flute_parts.specs.declared.fact.Fact.{Fact}
use Rattle.flute_parts.proofs.Public.{of_equal}
use Rattle.flutejoin.specs.Extract.{AnswersFrom, Extracts}
use Rattle.flutejoin.specs.declared.command_fault.CommandFault.{CommandFault}
use Rattle.flutejoin.specs.Show.{FailsToRead}
use Rattle.flutejoin.specs.Limits.{at_most}
use Rattle.flutejoin.proofs.extract_lemmas.Extracted.{answers, if_err, first_part, journal_fault}
use Rattle.flutejoin.proofs.extract_lemmas.Extracted.{of_source}
use Rattle.flutejoin.proofs.extract.extract_to.Goals as goal

pub returns-in-Ok-clause-extracts : goal.returns-in-Ok-clause-extracts
returns-in-Ok-clause-extracts g c =
    let old = c.args.sink.now in
    let new = c.read_into.new.sink in
    let r = c.end.result in
    let p = of_source g.R.Source.unread c.new-reader.ensures.unread c.in-Ok.ensures.passed in
    let a = answers g.W.Sink.written c.args.key.now old new r p
    (c.in-Ok.ensures.same_key ∙ c.new-writer.ensures.key) c.in-Ok.ensures.untouched
    c.end.ensures.extracts c.end.ensures.untouched in
    let P : Option (List ℕ) → Type 0 = λ left. AnswersFrom
    (at_most g.row.SESSIONS g.row.OBJECTS g.row.SYMBOLS) (g.R.Source.unread c.args.source.now) left
    (λ F. Extracts g.W.Sink.written F c.args.key.now old new r) r in of_equal g.R.Source.unread P
    a.extracts _ (search rules)

pub returns-in-Ok-clause-as_others : goal.returns-in-Ok-clause-as_others
returns-in-Ok-clause-as_others g c = λ others. let old = c.args.sink.now in
    let new = c.read_into.new.sink in
    let r = c.end.result in
    let p = of_source g.R.Source.unread c.new-reader.ensures.unread c.in-Ok.ensures.passed in
    let a = answers g.W.Sink.written c.args.key.now old new r p
    (c.in-Ok.ensures.same_key ∙ c.new-writer.ensures.key) c.in-Ok.ensures.untouched
    c.end.ensures.extracts c.end.ensures.untouched in
    let P : Option (List ℕ) → Type 0 = λ left. AnswersFrom
    (at_most g.row.SESSIONS g.row.OBJECTS g.row.SYMBOLS) (g.R.Source.unread c.args.source.now) left
    (λ F. Same F others → Extracts g.W.Sink.written others c.args.key.now old new r) r in of_equal
    g.R.Source.unread P (a.as_others others) _ (search rules)

pub returns-in-Ok-clause-short : goal.returns-in-Ok-clause-short
returns-in-Ok-clause-short g c =
    let p = of_source g.R.Source.unread c.new-reader.ensures.unread c.in-Ok.ensures.passed in
    if_err _ _ (first_part g.W.Sink.written _ _ _ p
    (c.in-Ok.ensures.same_key ∙ c.new-writer.ensures.key) c.in-Ok.ensures.untouched)

pub returns-in-Err-clause-short : goal.returns-in-Err-clause-short
returns-in-Err-clause-short g c =
    let p = of_source g.R.Source.unread c.new-reader.ensures.unread c.in-Err.ensures.passed in
    first_part g.W.Sink.written _ _ _ p
    (c.in-Err.ensures.same_key ∙ c.new-writer.ensures.key) c.in-Err.ensures.untouched

pub returns-in-Ok-clause-read_failures : goal.returns-in-Ok-clause-read_failures
returns-in-Ok-clause-read_failures g c =
    let old = c.args.sink.now in
    let new = c.read_into.new.sink in
    let r = c.end.result in
    let p = of_source g.R.Source.unread c.new-reader.ensures.unread c.in-Ok.ensures.passed in
    let a = answers g.W.Sink.written _ old new r p
    (c.in-Ok.ensures.same_key ∙ c.new-writer.ensures.key) c.in-Ok.ensures.untouched
    c.end.ensures.extracts c.end.ensures.untouched in
    let P : ℕ → Type 0 = λ n. FailsToRead {T = ℕ} (g.R.Source.failures c.args.source.now) n r in
    of_equal g.R.Source.failures P (a.reads _ _ (subst (λ (x : g.row.R.Denot). g.R.Source.failures
    c.read_into.new.reader.source.now ≡ g.R.Source.failures x) c.new-reader.ensures.unread
    c.in-Ok.ensures.read_failures)) _ (search rules)

pub returns-in-Err-clause-extracts : goal.returns-in-Err-clause-extracts
returns-in-Err-clause-extracts g c =
    let f : Result ℕ CommandFault = Err c.load_fault.result in
    let p = of_source g.R.Source.unread c.new-reader.ensures.unread c.in-Err.ensures.passed in
    let P : Option (List ℕ) → Type 0 = λ left. AnswersFrom
    (at_most g.row.SESSIONS g.row.OBJECTS g.row.SYMBOLS) (g.R.Source.unread c.args.source.now) left
    (λ F. Extracts g.W.Sink.written F c.args.key.now c.args.sink.now c.read_into.new.sink f) f in
    of_equal g.R.Source.unread P (journal_fault c.load_fault.ensures
    (λ F. Extracts g.W.Sink.written F c.args.key.now c.args.sink.now c.read_into.new.sink f) p) _
    (search rules)

pub returns-in-Err-clause-as_others : goal.returns-in-Err-clause-as_others
returns-in-Err-clause-as_others g c = λ others. let f : Result ℕ CommandFault = Err
    c.load_fault.result in
    let p = of_source g.R.Source.unread c.new-reader.ensures.unread c.in-Err.ensures.passed in
    let Q : List Fact → Type 0 = λ F. Same F others → Extracts g.W.Sink.written others
    c.args.key.now c.args.sink.now c.read_into.new.sink f in
    let P : Option (List ℕ) → Type 0 = λ left. AnswersFrom
    (at_most g.row.SESSIONS g.row.OBJECTS g.row.SYMBOLS) (g.R.Source.unread c.args.source.now) left
    Q f in of_equal g.R.Source.unread P (journal_fault c.load_fault.ensures Q p) _ (search rules)
