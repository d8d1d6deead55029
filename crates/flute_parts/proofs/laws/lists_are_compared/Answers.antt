use Rattle.std.proofs.Common.{rules}
use Rattle.flute_parts.proofs.Readings.{fact_at-none, none-at, fact_at-one, fact_at-two}
use Rattle.flute_parts.proofs.Readings.{fact_at-conflict, fact_at-address}
use Rattle.flute_parts.proofs.Rising.{rising_has_one, rising_tells, rising_unique}
use Rattle.flute_parts.proofs.Facts.{Same-members, Same-swap, Same-twice, Same-append}
use Rattle.flute_parts.proofs.Facts.{Below-itself, Below-trans, Same-from_Below, Below-append}
use Rattle.flute_parts.proofs.Named.{Over-below}
use Rattle.flute_parts.proofs.laws.lists_are_compared.Goals as goal

pub returns : goal.returns
returns c = search (
  rules,
  none-at,
  fact_at-none,
  fact_at-one,
  fact_at-two,
  fact_at-conflict,
  fact_at-address,
  rising_has_one,
  rising_tells,
  rising_unique,
  Same-members,
  Same-swap,
  Same-twice,
  Same-append,
  Below-itself,
  Below-trans,
  Same-from_Below,
  Below-append,
  Over-below,
)
