-- Joins without the objects that a list names.
use Rattle.std.specs.Prelude.{◌≡◌, ℕ, List, Some}
use Rattle.std.specs.BTreeSet.{BTreeSet}
use Rattle.flute_parts.specs.declared.key.Key.{Key}
use Rattle.flute_streams.specs.Objects.{listed}
use Rattle.flute_streams.specs.declared.choice.objects.Objects.{Objects}
use Rattle.flute_streams.specs.declared.choice.scope.Scope.{Scope}
use Rattle.flutejoin.specs.KeyLists.{ListNames}

-- those of the scope that the list does not name
pub record AreWithout (list : List ℕ) (scope : Scope) (objects : Objects) : Type 0 where
  pub keys : BTreeSet Key
  pub names : ListNames list keys
  pub scope_is : objects.scope ≡ scope
  pub listed_are : listed objects ≡ Some keys
