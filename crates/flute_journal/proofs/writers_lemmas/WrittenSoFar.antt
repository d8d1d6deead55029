-- What a JournalWriter has written, call by call (specs/JournalWriters).
use Rattle.flute_journal.proofs.Common.{rules, ◌≡◌, ℕ, Bool, true, false, List}
use Rattle.flute_journal.proofs.Common.{[], ◌∷◌, ◌++◌, Option, refl, sym, ap, ◌∙◌}
use Rattle.flute_journal.proofs.Common.{append_assoc, append-nil, ◌≢◌, Appends, Appends-trans}
use Rattle.flute_journal.proofs.Common.{AppendsPart, Written, PutsBytes}

some_more : (xs ys : List ℕ) → xs ≢ [] → xs ++ ys ≢ []
some_more [] ys n e = n refl
some_more (x ∷ xs) ys n e = cc

-- more bytes were put after what was written
pub written-more : (f g : Bool) (u v w : Option (List ℕ)) (xs ys : List ℕ)
    → Written f u v xs × PutsBytes f g v w ys → Written g u w (xs ++ ys)
written-more false false u v w xs ys (a, p) = Appends-trans u v w xs ys a p
written-more false true u v w xs ys (a, p) = record {
  part = xs ++ p.part;
  rest = p.rest;
  appended = Appends-trans u v w xs p.part a p.appended;
  whole = ap (λ (l : List ℕ). xs ++ l) p.whole ∙ sym (append_assoc xs p.part p.rest);
  cut = p.cut;
}
written-more true true u v w xs ys (a, p) =
    search (rules, append-nil, Appends-trans, append_assoc, some_more)
written-more true false u v w xs ys (a, p) = absurd p

pub written-whole : (f : Bool) (u v : Option (List ℕ)) (xs : List ℕ) → f ≡ false
    → Written f u v xs → Appends u v xs
written-whole x0 x1 x2 x3 x4 x5 = search rules

-- what was appended, and what is lacking
pub record WrittenPart (u v : Option (List ℕ)) (xs : List ℕ) : Type 0 where
  pub bytes : List ℕ
  pub more : List ℕ
  pub appended : Appends u v bytes
  pub whole : bytes ++ more ≡ xs

pub written-part : (f : Bool) (u v : Option (List ℕ)) (xs : List ℕ) → Written f u v xs
    → WrittenPart u v xs
written-part x0 x1 x2 x3 x4 = search rules

-- the first call of a writer
pub put_first : (f g : Bool) (u v : Option (List ℕ)) (xs : List ℕ) → f ≡ false
    → PutsBytes f g u v xs → Written g u v xs
put_first x0 x1 x2 x3 x4 x5 x6 = search rules

-- a call during which the sink failed for the first time took a part of its bytes
pub puts-part : (f g : Bool) (u v : Option (List ℕ)) (xs : List ℕ) → f ≡ false
    → g ≡ true → PutsBytes f g u v xs → AppendsPart u v xs
puts-part x0 x1 x2 x3 x4 x5 x6 x7 = search rules

-- bytes that were left out are as bytes that a sink did not take
pub left_out : (f : Bool) (u : Option (List ℕ)) (xs : List ℕ) → xs ≢ [] → PutsBytes f true u u xs
left_out x0 x1 x2 x3 = search rules
