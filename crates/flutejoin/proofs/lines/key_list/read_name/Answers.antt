-- read_name: the name of an object, in its pieces, and when a line has none.
use Rattle.std.proofs.Common.{rules}
use Rattle.std.proofs.Common.{◌≡◌, ◌∙◌, ℕ, List, [], ◌∷◌, ◌++◌, false, codes, decimal, get_or, refl, sym, ap, subst, append_assoc}
use Rattle.std.proofs.lemmas.Bool.{true≢false}
use Rattle.std.specs.Char.{is_ascii_digit}
use Rattle.flute_parts.specs.declared.key.Key.{Key}
use Rattle.flutejoin.specs.KeyLists.{IsApart, IsNamed}
use Rattle.flutejoin.specs.Lines.{key_words, object_words, source_words}
use Rattle.flutejoin.proofs.lines.key_list.read_name.Goals as goal

abbrev from_space : Key → List ℕ → List ℕ
from_space key rest = codes " " ++ (object_words key.object ++ rest)

name_chain : (key : Key) (rest : List ℕ) → key_words key ++ rest ≡ source_words
    key.session.sender ++ (codes "session " ++ (decimal key.session.tsi ++ from_space key rest))
name_chain key rest = six (source_words key.session.sender) (codes "session ")
    (decimal key.session.tsi) (codes " ") (object_words key.object) rest
  where
    six : (a b c d e f : List ℕ)
        → (a ++ b ++ c ++ d ++ e) ++ f ≡ a ++ (b ++ (c ++ (d ++ (e ++ f))))
    six a b c d e f = simp append_assoc refl

no_digit : (rest : List ℕ) → IsApart rest → is_ascii_digit (get_or rest 0 0) ≡ false
no_digit [] apart = refl
no_digit (byte ∷ rest) apart = ap is_ascii_digit apart

pub returns-in_default-clause-finds : goal.returns-in_default-clause-finds
returns-in_default-clause-finds c = λ key known named.
    c.in_default.ensures.finds key.session (from_space key named.rest) known.0 refl
    (named.words_are ∙ name_chain key named.rest)

pub returns-in_default-object_in-clause-finds : goal.returns-in_default-object_in-clause-finds
returns-in_default-object_in-clause-finds c = λ key known named.
    let a = c.in-Some.ensures.finds key.session (from_space key named.rest) known.0 refl
    (named.words_are ∙ name_chain key named.rest) in
    c.in_default-object_in.ensures.finds key.object named.rest known.1
    (no_digit named.rest named.apart) a.2

pub returns-in_default-key_of-clause-finds : goal.returns-in_default-key_of-clause-finds
returns-in_default-key_of-clause-finds c = λ key known named.
    let a = c.in-Some.ensures.finds key.session (from_space key named.rest) known.0 refl
    (named.words_are ∙ name_chain key named.rest) in
    let d = c.in-Some-object_in.ensures.finds key.object named.rest known.1
    (no_digit named.rest named.apart) a.2 in
    c.in_default-key_of.ensures.finds key known.0 known.1 a.0 a.1 d.0

pub returns-then-is_named-clause-found : goal.returns-then-is_named-clause-found
returns-then-is_named-clause-found c =
    subst (λ text. IsNamed text c.args.words.now)
    (c.as_slice.ensures ∙ c.push_key.ensures.text ∙ ap (λ t. t ++ key_words c.in-Some-key_of.key)
    c.new-text.ensures)
    (c.is_named.ensures.0 c.if-is_named.true)

pub returns-then-is_named-clause-finds : goal.returns-then-is_named-clause-finds
returns-then-is_named-clause-finds c = λ key known named.
    let a = c.in-Some.ensures.finds key.session (from_space key named.rest) known.0 refl
    (named.words_are ∙ name_chain key named.rest) in
    let d = c.in-Some-object_in.ensures.finds key.object named.rest known.1
    (no_digit named.rest named.apart) a.2 in
    c.in-Some-key_of.ensures.finds key known.0 known.1 a.0 a.1 d.0

pub returns-else-is_named-clause-finds : goal.returns-else-is_named-clause-finds
returns-else-is_named-clause-finds c = λ key known named.
    let a = c.in-Some.ensures.finds key.session (from_space key named.rest) known.0 refl
    (named.words_are ∙ name_chain key named.rest) in
    let d = c.in-Some-object_in.ensures.finds key.object named.rest known.1
    (no_digit named.rest named.apart) a.2 in
    let same = c.in-Some-key_of.ensures.finds key known.0 known.1 a.0 a.1 d.0 in
    let text = c.as_slice.ensures ∙ c.push_key.ensures.text
    ∙ ap (λ t. t ++ key_words c.in-Some-key_of.key) c.new-text.ensures ∙ ap key_words same in
    true≢false (sym (c.is_named.ensures.1 (subst (λ t. IsNamed t c.args.words.now) (sym text)
    named)) ∙ c.if-is_named.false)
