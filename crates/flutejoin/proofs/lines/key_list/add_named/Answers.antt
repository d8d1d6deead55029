-- add_named: the object of the line is in the set, or why it is not.
use Rattle.std.proofs.Common.{rules}
use Rattle.std.proofs.Common.{◌∙◌, [], ◌∷◌, inr, refl, sym}
use Rattle.std.proofs.lemmas.Bool.{true≢false}
use Rattle.flutejoin.specs.KeyLists.{none, one}
use Rattle.flutejoin.proofs.lines_lemmas.NamedKeys.{one_held, same_held}
use Rattle.flutejoin.proofs.lines.key_list.add_named.Goals as goal

pub returns-then-names_none-clause-added : goal.returns-then-names_none-clause-added
returns-then-names_none-clause-added c = λ named held. (
  [],
  none (c.names_none.ensures.0 c.if-names_none.true) refl,
  same_held _ _ named held refl,
)

pub returns-in_default-clause-failed : goal.returns-in_default-clause-failed
returns-in_default-clause-failed c = inr (
  refl,
  record {
    some = λ n. true≢false (sym (c.names_none.ensures.1 n) ∙ c.if-names_none.false);
    other = λ key known named. c.in_default.ensures.finds key known named;
  },
)

pub returns-in-Ok-clause-added : goal.returns-in-Ok-clause-added
returns-in-Ok-clause-added c = λ named held. (
  c.in-Some.key ∷ [],
  one c.in-Some.key (search rules) c.in-Some.ensures.found refl,
  one_held c.args.keys.now c.insert.new.self c.in-Some.key named held c.in-Ok.ensures.updates,
)
