-- Joins of what joins wrote.
use Rattle.std.specs.Prelude.{ℕ, List, [], ◌∷◌, ◌++◌, Some}
use Rattle.flute_parts.specs.declared.fact.Fact.{Fact}
use Rattle.flute_streams.specs.Scopes.{chosen}
use Rattle.flutejoin.specs.Joined.{Choice, InputContent, content_facts, Tells}
use Rattle.flutejoin.specs.Joining.{JoinsTo}
use Rattle.flutejoin.specs.declared.join.join_counts.JoinCounts.{JoinCounts}

-- a join of these inputs wrote these bytes, after whatever was there before
abbrev pub Joined : Choice → List (List ℕ) → List ℕ → Type 0
Joined choice inputs bytes =
    (counts : JoinCounts) × (before : List ℕ)
    × JoinsTo choice inputs counts (Some before) (Some (before ++ bytes))

-- The inputs of a join: the first of them, with what it contains, or with the join that wrote it
-- and that join's inputs; and the others.
pub data Inputs : Type 0 where
  none : Inputs
  leaf : (bytes : List ℕ) → InputContent → Inputs → Inputs
  node : (bytes : List ℕ) → Choice → Inputs → Inputs → Inputs

-- the bytes of inputs, each a file or the output of a join below
abbrev pub bytes_of : Inputs → List (List ℕ)
bytes_of none = []
bytes_of (leaf bytes content others) = bytes ∷ bytes_of others
bytes_of (node bytes own below others) = bytes ∷ bytes_of others

-- each is what it is said to be
abbrev pub AreMade : Inputs → Type 0
AreMade none = Unit {0}
AreMade (leaf bytes content others) = Tells bytes content × AreMade others
AreMade (node bytes own below others) =
    Joined own (bytes_of below) bytes × AreMade below × AreMade others

-- the facts of all leaves, as far as each join takes them
abbrev pub leaf_facts : Choice → Inputs → List Fact
leaf_facts choice none = []
leaf_facts choice (leaf bytes content others) =
    content_facts choice content ++ leaf_facts choice others
leaf_facts choice (node bytes own below others) =
    chosen choice.takes (leaf_facts own below) ++ leaf_facts choice others
