-- Reading nested maps: if reading a value keeps joins, so does reading the value at a key.
use Rattle.std.proofs.Common.{arith}
use Rattle.std.proofs.lemmas.Grind.{common_steps}
use Rattle.std.proofs.Common.{rules}
use Rattle.std.proofs.Common.{◌≡◌, List, [], ◌∷◌, Bool, true, false, cond, Option, Some}
use Rattle.std.proofs.Common.{None, sym, ap, ◌∙◌}
use Rattle.std.specs.declared.cmp.Ordering.{Ordering}
use Rattle.std.specs.Cmp.{IsTotalOrder}
use Rattle.std.specs.BTreeMap.{is_at}
use Rattle.std.specs.Option.{option_map_or}
use Rattle.flute_join.specs.JoinMap.{map_join, join_values, value_at, IsOrdered, EachValue}
use Rattle.flute_join.proofs.Values.{value_at-map_join}

module _ {K X C : Type 0} {cmp : K → K → Ordering} (order : IsTotalOrder cmp)
    (join : X → X → X) (P : X → Type 0) (read : X → C) (nothing : C)
    (join_read : C → C → C)
    (left : (c : C) → join_read nothing c ≡ c) (right : (c : C) → join_read c nothing ≡ c)
    (keeps : (v w : X) → P v → P w
    → read (join v w) ≡ join_read (read v) (read w)) where
  -- P holds of the value, if there is one
  abbrev Holds : Option X → Type 0
  Holds None = Unit {0}
  Holds (Some v) = P v

  holds_first : (test : Bool) (e : K × X) (o : Option X) → P e.1 → Holds o
      → Holds (cond test (Some e.1) o)
  holds_first x0 x1 x2 x3 x4 = search rules

  holds_at : (es : List (K × X)) (q : K) → EachValue P es → Holds (value_at cmp es q)
  holds_at [] q a = tt
  holds_at (e ∷ es) q a = holds_first _ e _ a.0 (holds_at es q a.1)

  read_values : (a b : Option X) → Holds a → Holds b → option_map_or read (join_values join a b)
      nothing ≡ join_read (option_map_or read a nothing) (option_map_or read b nothing)
  read_values x0 x1 x2 x3 = search rules

  pub reading_at : (es fs : List (K × X)) (q : K) → IsOrdered cmp es → IsOrdered cmp fs → EachValue
      P es → EachValue P fs → option_map_or read (value_at cmp (map_join cmp join es fs) q) nothing
      ≡ join_read (option_map_or read (value_at cmp es q) nothing)
      (option_map_or read (value_at cmp fs q) nothing)
  reading_at es fs q s t a b = search (rules, value_at-map_join, read_values, value_at, holds_at)
