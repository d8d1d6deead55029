-- add_told: the fact that the line contains is added to the store, or why it contains none.
use Rattle.std.proofs.Common.{rules, [], ◌∷◌, ◌∙◌, refl, sym, ap, Err}
use Rattle.std.proofs.lemmas.Bool.{true≢false}
use Rattle.flute_parts.specs.declared.fact.Fact.TheVariants.{Info}
use Rattle.flutejoin.specs.InformationLines.{Shows, no_line, no_room, not_valid, numbers_of}
use Rattle.flutejoin.specs.InformationLines.{passed_over}
use Rattle.flutejoin.proofs.info_lemmas.ListLines.{tells_shown}
use Rattle.flutejoin.proofs.info.information_list.add_told.Goals as goal

pub returns-then-is_passed_over-clause-added : goal.returns-then-is_passed_over-clause-added
returns-then-is_passed_over-clause-added g c =
    ([], passed_over (c.is_passed_over.ensures.0 c.if-is_passed_over.true) refl, search rules)

pub returns-in_default-clause-failed : goal.returns-in_default-clause-failed
returns-in_default-clause-failed g c = no_line refl (record {
  some = λ p. true≢false (sym (c.is_passed_over.ensures.1 p) ∙ c.if-is_passed_over.false);
  other = λ key info shows.
      c.in_default.ensures.finds key info shows.key_is shows.numbers shows.words_are;
})

pub returns-in-Err-clause-failed : goal.returns-in-Err-clause-failed
returns-in-Err-clause-failed g c =
    let key = c.in-Some.key in
    let n = numbers_of c.in-Some.numbers in
    let shows : Shows c.args.words.now key n = record {
      key_is = search rules;
      numbers = search rules;
      words_are = c.in-Some.ensures.found;
    } in not_valid c.in-Err.fault refl
    (record { key = key; info = n; shows = shows; invalid = c.in-Err.ensures })

pub returns-in-Ok-add-clause-added : goal.returns-in-Ok-add-clause-added
returns-in-Ok-add-clause-added g c =
    let key = c.in-Some.key in
    let n = numbers_of c.in-Some.numbers in
    let shows : Shows c.args.words.now key n = record {
      key_is = search rules;
      numbers = search rules;
      words_are = c.in-Some.ensures.found;
    } in
    let tells = tells_shown _ _ _ n shows c.in-Ok.ensures.0 c.in-Ok.ensures.1 in
    (Info key c.in-Ok.info ∷ [], tells, c.in-Ok-add.ensures.ok)

pub returns-in-Err-Full-clause-failed : goal.returns-in-Err-Full-clause-failed
returns-in-Err-Full-clause-failed g c =
    let key = c.in-Some.key in
    let n = numbers_of c.in-Some.numbers in
    let shows : Shows c.args.words.now key n = record {
      key_is = search rules;
      numbers = search rules;
      words_are = c.in-Some.ensures.found;
    } in
    let tells = tells_shown _ _ _ n shows c.in-Ok.ensures.0 c.in-Ok.ensures.1 in
    no_room (Info key c.in-Ok.info ∷ []) refl tells
    (c.add.ensures.full.0 (c.in-Err-Full.is ∙ ap Err c.in-Err-Full.field-0-is))
