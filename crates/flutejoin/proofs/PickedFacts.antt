-- The entries that are picked, entry by entry.
use Rattle.std.proofs.Common.{rules}
use Rattle.std.proofs.Common.{◌≡◌, ◌≤◌, Bool, true, false, List, [], ◌∷◌, ◌++◌, length}
use Rattle.std.proofs.Common.{refl, ap, ◌∙◌, append-nil}
use Rattle.std.specs.Prelude.{filter}
use Rattle.std.proofs.lemmas.Bool.{cases_Bool}
use Rattle.std.proofs.lemmas.List.Elements.{filter-append}
use Rattle.std.proofs.lemmas.List.Sums.{count_by-le-length, length-filter}
use Rattle.flute_parts.specs.Facts.{IsRising, StandAfter}
use Rattle.flute_parts.specs.declared.address.Address.{Address}
use Rattle.flute_parts.specs.declared.fact.Fact.{Fact}

module _ (picks : Fact → Bool) where
  after_picked : (a : Address) (facts : List Fact) → StandAfter a facts
      → StandAfter a (filter picks facts)
  after_picked a [] s = tt
  after_picked a (f ∷ facts) s = search (rules, after_picked a facts s.1)

  pub rising_picked : (facts : List Fact) → IsRising facts → IsRising (filter picks facts)
  rising_picked [] r = tt
  rising_picked (f ∷ facts) r = search (rules, cases_Bool, after_picked, rising_picked facts r.1)

  pub few_picked : (F : List Fact) → length (filter picks F) ≤ length F
  few_picked F = rw (length-filter _ F) (count_by-le-length _ F)

  module _ (f : Fact) where
    pub just_picked : picks f ≡ true → filter picks (f ∷ []) ≡ f ∷ []
    just_picked e = rw e refl

    module _ (F : List Fact) where
      pub one_picked : picks f ≡ true → filter picks (F ++ f ∷ []) ≡ filter picks F ++ f ∷ []
      one_picked e = filter-append _ F _ ∙ ap (λ l. filter picks F ++ l) (just_picked e)

      pub none_picked : picks f ≡ false → filter picks (F ++ f ∷ []) ≡ filter picks F
      none_picked e =
          let none : filter picks (f ∷ []) ≡ [] = rw e refl in
          filter-append _ F _ ∙ ap (λ l. filter picks F ++ l) none ∙ append-nil (filter picks F)

      pub picked_rises : picks f ≡ true → IsRising (F ++ f ∷ [])
          → IsRising (filter picks F ++ f ∷ [])
      picked_rises e r = rw (← one_picked e) (rising_picked _ r)
