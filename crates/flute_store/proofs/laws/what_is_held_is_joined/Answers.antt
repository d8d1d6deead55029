use Rattle.std.proofs.Common.{rules}
use Rattle.std.proofs.Common.{[], ◌++◌, ◌≢◌, List, None, refl}
use Rattle.flute_parts.specs.Facts.{Same, Below}
use Rattle.flute_parts.proofs.Public.{Below-append, Below-from_Same, Below-itself, Below-trans}
use Rattle.flute_parts.proofs.Public.{Same-from_Below, Same-twice}
use Rattle.flute_store.proofs.Common
use Common.{Fact, address, fact_at, HasCell}
use Rattle.flute_store.proofs.laws.what_is_held_is_joined.Goals as goal

joined_again : (old other left : List Fact) → Below old left → Below left (old ++ other)
    → Same (left ++ other) (old ++ other)
joined_again old other left above below =
    let both = old ++ other in
    let nothing : Below [] old = record { each = λ a. refl } in
    Same-from_Below _ _ (Below-trans (left ++ other) _ _
    (Below-append left _ _ both below (Below-append [] _ _ other nothing (Below-itself _)))
    (Below-from_Same (both ++ both) _ (Same-twice _)))
    (Below-append old _ _ other above (Below-itself _))

has_cell : (held : List Fact) (f : Fact) → fact_at held (address f) ≢ None → HasCell held f
has_cell = search rules

pub returns : goal.returns
returns c = record {
  again = λ old other left new above below same. let again = joined_again old other _ above
      below in record { each = search rules };
  cells = has_cell;
}
