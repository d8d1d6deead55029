-- read_information: the object and the numbers of a line, and when it has none.
use Rattle.std.proofs.Common.{◌≡◌, ◌∙◌, refl, sym, ap}
use Rattle.std.proofs.lemmas.Bool.{true≢false}
use Rattle.std.proofs.lemmas.Bool.Decides.{Decides-eqb}
use Rattle.std.proofs.lemmas.Slice.Eq.{slice_eq-Decides}
use Rattle.flute_parts.specs.declared.fact.Fact.TheVariants.{Info}
use Rattle.flutejoin.specs.InformationLines.{numbers_of}
use Rattle.flutejoin.specs.Lines.{fact_words}
use Rattle.flutejoin.proofs.info_lemmas.LinePieces.{from_info, from_space, fact_chain}
use Rattle.flutejoin.proofs.info.information_line.read_information.Goals as goal

pub returns-in_default-information_in-clause-finds :
    goal.returns-in_default-information_in-clause-finds
returns-in_default-information_in-clause-finds c = λ key info named fields is. let a =
    c.in-Some.ensures.finds key.session (from_space key info) named.0 refl (is ∙ fact_chain _ _) in
    let d = c.in-Some-object_in.ensures.finds key.object (from_info info) named.1 refl a.2 in
    c.in_default-information_in.ensures.finds info fields d.1

pub returns-in_default-key_of-clause-finds : goal.returns-in_default-key_of-clause-finds
returns-in_default-key_of-clause-finds c = λ key info named fields is. let a =
    c.in-Some.ensures.finds key.session (from_space key info) named.0 refl (is ∙ fact_chain _ _) in
    let d = c.in-Some-object_in.ensures.finds key.object (from_info info) named.1 refl a.2 in
    c.in_default-key_of.ensures.finds key named.0 named.1 a.0 a.1 d.0

pub returns-then-eq-clause-finds : goal.returns-then-eq-clause-finds
returns-then-eq-clause-finds c = λ key info named fields is. let a = c.in-Some.ensures.finds
    key.session (from_space key info) named.0 refl (is ∙ fact_chain _ _) in
    let d = c.in-Some-object_in.ensures.finds key.object (from_info info) named.1 refl a.2 in
    let n = numbers_of c.in-Some-information_in.numbers in
    let numbers = c.in-Some-information_in.ensures.finds info fields d.1 in
    let same = c.in-Some-key_of.ensures.finds key named.0 named.1 a.0 a.1 d.0 in
    (same, numbers)

pub returns-else-eq-clause-finds : goal.returns-else-eq-clause-finds
returns-else-eq-clause-finds c = λ key info named fields is. let a = c.in-Some.ensures.finds
    key.session (from_space key info) named.0 refl (is ∙ fact_chain _ _) in
    let d = c.in-Some-object_in.ensures.finds key.object (from_info info) named.1 refl a.2 in
    let n = numbers_of c.in-Some-information_in.numbers in
    let numbers = c.in-Some-information_in.ensures.finds info fields d.1 in
    let same = c.in-Some-key_of.ensures.finds key named.0 named.1 a.0 a.1 d.0 in
    let text : c.as_slice.result.now ≡ fact_words (Info c.in-Some-key_of.key n) = rw (
      c.as_slice.ensures,
      c.push_numbers.ensures.text,
      c.push.ensures.text,
      c.push_key.ensures.text,
      c.new-text.ensures,
    ) refl in
    let whole = text ∙ ap (λ k. fact_words (Info k n)) same ∙ ap (λ i. fact_words (Info key i))
    numbers ∙ sym is in
    let yes = (slice_eq-Decides Decides-eqb _ _ _ c.eq.ensures).1 whole in
    true≢false (sym yes ∙ c.if-eq.false)
