-- Journals of which entries were forgotten, and what of a journal another lacks.
use Rattle.std.specs.Prelude.{◌≡◌, ℕ, false, List, [], ◌∷◌, ◌++◌, Some, None, Contains}
use Rattle.std.specs.List.{AllZip}
use Rattle.flute_parts.specs.Facts.{Below}
use Rattle.flute_parts.specs.declared.fact.Fact.{Fact}
use Rattle.flute_streams.specs.declared.choice.selection.AllBut.{AllBut}
use Rattle.flutejoin.specs.Fill.{WritesFill}
use Rattle.flutejoin.specs.FillLists.{asks}
use Rattle.flutejoin.specs.Forget.{Forgets}
use Rattle.flutejoin.specs.Minus.{WritesMinus}
use Rattle.flutejoin.specs.declared.fill.asking.Asking.{Asking}
use Rattle.flutejoin.specs.declared.fill.listed_line.ListedLine.{ListedLine}
use Rattle.flutejoin.specs.declared.forget.ForgetCounts.{ForgetCounts}

-- a journal of these bytes, without what is left out, was written as those, after whatever was
-- there before
abbrev pub Leaves : AllBut → List ℕ → List ℕ → ForgetCounts → Type 0
Leaves rest bytes written counts =
    (before : List ℕ)
    × Forgets rest counts (Some bytes) (Some before) (Some (before ++ written))

-- whole objects are left out, whatever is known of them
pub record IsOfObjects (rest : AllBut) : Type 0 where
  pub symbol : rest.selection.symbol ≡ None
  pub info : rest.selection.info ≡ false
  pub conflicts : rest.selection.conflicts ≡ false

-- of each journal what is left was written as these bytes
abbrev pub AreLeft : AllBut → List (List ℕ) → List (List ℕ) → Type 0
AreLeft rest journals written =
    AllZip (λ one left. (counts : ForgetCounts) × Leaves rest one left counts) journals written

-- what of the first journal a join would change the second by was written as these bytes, after
-- whatever was there before, and has so many entries
pub record IsMinus (first second written : List ℕ) (count : ℕ) : Type 0 where
  pub before : List ℕ
  pub writes : WritesMinus (Some first) (Some second) count (Some before) (Some (before ++ written))

-- what of the journal these lines ask for was written as these bytes, after whatever was there
-- before, and has so many entries
pub record IsAnswer (asking : Asking) (journal lines written : List ℕ) (count : ℕ) : Type 0 where
  pub before : List ℕ
  pub writes : WritesFill asking (Some journal) (Some lines) count (Some before)
      (Some (before ++ written))

-- of each of some facts that is not asked for, others have the value
abbrev pub HaveTheRest : Asking → List ListedLine → List Fact → List Fact → Type 0
HaveTheRest asking listed facts held =
    (f : Fact) → Contains facts f → asks asking listed f ≡ false → Below (f ∷ []) held
