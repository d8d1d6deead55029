-- The lines that are put aside as a comparison tells its rows.
use Rattle.std.specs.Prelude.{◌≡◌, ℕ, ◌+◌, ◌<◌, ◌^◌, Bool, true, false, List, [], ◌∷◌, ◌++◌, Option}
use Rattle.std.specs.Prelude.{Some, None}
use Rattle.std.specs.List.{flat_map, sum_by, AllByRecursion}
use Rattle.flute_streams.specs.declared.merge.sides.Row.{Row}
use Rattle.flutejoin.specs.CompareLines.{are_same, row_line}
use Rattle.flutejoin.specs.CompareSums.{row_session, session_line, sums_of}
use Rattle.flutejoin.specs.Listing.{Knows}
use Rattle.flutejoin.specs.Parts.{parts_of}
use Rattle.flutejoin.specs.declared.compare.compare_lines.CompareLines.{CompareLines}
use Rattle.flutejoin.specs.declared.compare.compare_sums.CompareSums.{CompareSums}
use Rattle.flutejoin.specs.declared.lines.form.Form.{Form}

-- the lines of all sessions but the last, which has these sums
pub record AreSummed (form : Form) (rows : List Row) (lines : List ℕ)
    (sums : CompareSums) : Type 0 where
  pub before : List Row
  pub first : Row
  pub others : List Row
  pub all : rows ≡ before ++ first ∷ others
  pub same : AllByRecursion (λ (row : Row). row_session row ≡ row_session first) others
  pub apart : (more : List Row) → parts_of row_session (before ++ first ∷ more)
      ≡ parts_of row_session before ++ parts_of row_session (first ∷ more)
  pub lines_are : lines ≡ flat_map (session_line form) (parts_of row_session before)
  pub sums_are : sums ≡ sums_of (row_session first) (first ∷ others)

-- lines of rows: of each, or of their sessions
abbrev pub AreTheirs : Form → Bool → List Row → List ℕ → Option CompareSums → Type 0
AreTheirs form false rows lines sums = (lines ≡ flat_map (row_line form) rows) × (sums ≡ None)
AreTheirs form true rows lines None = (rows ≡ []) × (lines ≡ [])
AreTheirs form true rows lines (Some sums) = AreSummed form rows lines sums

-- how much a row adds to the sums of a session, at most
abbrev pub weight : Row → ℕ
weight row =
    1 + row.symbols.same + row.symbols.differ + row.symbols.first + row.symbols.second

-- no sum of rows has more than 64 bits
abbrev pub AreFew : List Row → Type 0
AreFew rows = sum_by weight rows < 2 ^ 64

module _ {A : Type 0} (written : A → Option (List ℕ)) where
  -- the lines of these rows were put aside, if that is known, and the rest is remembered
  pub record HasRows (known : Bool) (rows : List Row) (v : CompareLines A) : Type 0 where
    pub lines : List ℕ
    pub same : v.same ≡ are_same rows
    pub theirs : AreTheirs v.style.form v.style.summary rows lines v.sums
    pub lines_known : Knows known (written v.lines.now) lines

module _ {A : Type 0} (written : A → Option (List ℕ)) (failures : A → ℕ) where
  -- after any rows these were told, if there are not too many to be counted
  pub record TakesRows (old : CompareLines A) (rows : List Row) (new : CompareLines A)
      : Type 0 where
    pub style : new.style ≡ old.style
    pub name : new.lines.ghost_name ≡ old.lines.ghost_name
    pub quiet : failures new.lines.now ≡ failures old.lines.now
    pub has : (known : Bool) (before : List Row) → AreFew (before ++ rows)
        → HasRows written known before old → HasRows written known (before ++ rows) new

module _ {A : Type 0} (failures : A → ℕ) where
  -- a line could not be put aside
  pub record FailsToTell (old new : CompareLines A) : Type 0 where
    pub style : new.style ≡ old.style
    pub name : new.lines.ghost_name ≡ old.lines.ghost_name
    pub failed : failures new.lines.now ≡ failures old.lines.now + 1
