-- Why an object is still waited for.
use Rattle.std.specs.Prelude.{◌<◌, ◌⊎◌, List, length}
use Rattle.flute_parts.specs.Information.{Information}
use Rattle.flute_parts.specs.Limits.{symbols}
use Rattle.flute_parts.specs.Partition.{ids}
use Rattle.flute_parts.specs.declared.fact.Fact.{Fact}
use Rattle.flute_parts.specs.declared.key.Key.{Key}
use Rattle.flute_store.specs.Objects.{Whole}

-- fewer symbols of the object are held than it has; or else it is not whole
abbrev pub Waits : List Fact → Key → Information → Type 0
Waits F key info =
    (length (symbols F key) < length (ids info))
    ⊎ ((held : Information) → ¬ Whole F key held)
