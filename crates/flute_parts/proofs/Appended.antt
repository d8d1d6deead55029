-- Parts of bytes, appended one after the other.
use Rattle.std.proofs.Common.{rules}
use Rattle.std.proofs.Common.{◌≡◌, ℕ, List, [], ◌∷◌, ◌++◌, Option, Result}
use Rattle.std.proofs.Common.{refl, sym, ap, ◌∙◌, append_assoc}
use Rattle.std.specs.Io.KnownBytes.{Appends}
use Rattle.std.proofs.KnownBytes.{Appends-trans}
use Rattle.flute_parts.specs.Devices.{AppendsPart, Writes}

append_nil_left : (a b : List ℕ) → a ++ b ≡ [] → a ≡ []
append_nil_left [] b e = refl
append_nil_left (x ∷ a) b e = absurd cc

-- a part of the first bytes is a part of them all
pub AppendsPart-first : (old new : Option (List ℕ)) (a b : List ℕ) → AppendsPart old new a
    → AppendsPart old new (a ++ b)
AppendsPart-first old new a b p = record {
  part = p.part;
  rest = p.rest ++ b;
  appended = p.appended;
  whole = ap (λ x. x ++ b) p.whole ∙ append_assoc _ _ b;
  cut = λ e. p.cut (append_nil_left _ b e);
}

-- the first bytes and a part of the second are a part of them all
pub AppendsPart-second : (old mid new : Option (List ℕ)) (a b : List ℕ) → Appends old mid a
    → AppendsPart mid new b → AppendsPart old new (a ++ b)
AppendsPart-second old mid new a b done p = record {
  part = a ++ p.part;
  rest = p.rest;
  appended = Appends-trans old mid new a _ done p.appended;
  whole = ap (λ x. a ++ x) p.whole ∙ sym (append_assoc a _ _);
  cut = p.cut;
}

-- what was appended, and then what a write did
pub Writes-behind : {T E : Type 0} (old mid new : Option (List ℕ)) (a b : List ℕ)
    (r : Result T E) → Appends old mid a → Writes mid new b r → Writes old new (a ++ b) r
Writes-behind x0 x1 x2 x3 x4 x5 x6 x7 = search (rules, Appends-trans, AppendsPart-second)
