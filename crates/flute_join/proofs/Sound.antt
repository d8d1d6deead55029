-- What holds of each value of a map, and of a map that has keys.
use Rattle.std.proofs.Common.{arith}
use Rattle.std.proofs.lemmas.Grind.{common_steps}
use Rattle.std.proofs.Common.{rules}
use Rattle.std.proofs.Common.{◌≡◌, ◌≢◌, List, [], ◌∷◌, Bool, true, false, cond}
use Rattle.std.proofs.Common.{Option, Some, unwrap_or, sym, ap, ◌∙◌, subst}
use Rattle.std.specs.declared.cmp.Ordering.{Ordering}
use Rattle.std.specs.declared.cmp.Ordering.TheVariants.{Less, Equal, Greater}
use Rattle.std.specs.Ordering.{match_ordering}
use Rattle.std.specs.Cmp.{IsTotalOrder}
use Rattle.std.specs.Map.{set_value}
use Rattle.std.specs.BTreeMap.{is_at, insert_entry}
use Rattle.std.proofs.lemmas.Option.{none-some}
use Rattle.flute_join.specs.Semilattice.{IsBelow}
use Rattle.flute_join.specs.JoinMap.{map_join, value_at, IsOrdered, EachValue}
use Rattle.flute_join.specs.MapLaws.{join_nothing}
use Rattle.flute_join.proofs.Ordered.{ordered-map_join}
use Rattle.flute_join.proofs.Under.{ordered_under}

module _ {K X : Type 0} (cmp : K → K → Ordering) (P : X → Type 0) where
  found_first : (b : Bool) (v w : X) (o : Option X) → cond b (Some v) o ≡ Some w → P v
      → (o ≡ Some w → P w) → P w
  found_first x0 x1 x2 x3 x4 x5 x6 = search rules

  pub each-value_at : (es : List (K × X)) (k : K) (w : X) → EachValue P es
      → value_at cmp es k ≡ Some w → P w
  each-value_at [] k w a e = absurd (none-some w e)
  each-value_at (e ∷ es) k w a f = found_first _ e.1 w _ f a.0 (each-value_at es k w a.1)

  each_set : (b : Bool) (e : K × X) (es fs : List (K × X)) {w : X} → P w → P e.1
      → EachValue P es → EachValue P fs → EachValue P (cond b ((e.0, w) ∷ es) (e ∷ fs))
  each_set x0 x1 x2 x3 x4 x5 x6 x7 = search rules

  pub each-set_value : (test : K → Bool) (es : List (K × X)) (w : X) → EachValue P es → P w
      → EachValue P (set_value test es w)
  each-set_value test [] w a p = tt
  each-set_value test (e ∷ es) w a p = each_set _ e es _ p a.0 a.1 (each-set_value _ es w a.1 p)

  each_put : (r : Ordering) (k : K) (e : K × X) (es fs : List (K × X)) {w : X} → P w
      → EachValue P (e ∷ es) → EachValue P fs
      → EachValue P (match_ordering r ((k, w) ∷ e ∷ es) ((e.0, w) ∷ es) (e ∷ fs))
  each_put x0 x1 x2 x3 x4 x5 x6 x7 = search rules

  pub each-insert_entry : (es : List (K × X)) (k : K) (w : X) → EachValue P es → P w
      → EachValue P (insert_entry cmp es k w)
  each-insert_entry [] k w a p = (p, tt)
  each-insert_entry (e ∷ es) k w a p = each_put _ k e es _ p a (each-insert_entry es k w a.1 p)

module _ {K X : Type 0} {cmp : K → K → Ordering} (order : IsTotalOrder cmp) (join : X → X → X) where
  pub some_above : (es fs : List (K × X)) → IsBelow (map_join cmp join) es fs → es ≢ [] → fs ≢ []
  some_above es fs b n e = n (sym (join_nothing cmp _ es) ∙ ap (map_join cmp _ es) (sym e) ∙ b ∙ e)

  -- the keys of what lies below a join ascend
  pub ordered_between : (es fs ds : List (K × X)) → IsBelow (map_join cmp join) ds
      (map_join cmp join es fs) → IsOrdered cmp es → IsOrdered cmp fs → IsOrdered cmp ds
  ordered_between es fs ds b s t = search (rules, ordered_under, ordered-map_join)
