-- Why datagrams are refused, counted (specs/Refused).
use Rattle.std.proofs.Common.{rules}
use Rattle.std.proofs.Common.{◌≡◌, ◌≢◌, ℕ, ◌+◌, ◌⊎◌, List, [], ◌∷◌, ◌++◌, Result, Ok, Err, inl, inr}
use Rattle.std.proofs.Common.{refl, sym, ap, arith}
use Rattle.std.specs.Prelude.{◌↔◌, Some, slice_get}
use Rattle.std.proofs.lemmas.Bool.{cases_eq}
use Rattle.flute_wire.specs.Content.{Content}
use Rattle.flute_wire.specs.Refusals.{Refuses}
use Rattle.flute_wire.specs.RefusalWords.{place, refusals}
use Rattle.flute_wire.specs.declared.refusal.Refusal.{Refusal}
use Rattle.flutejoin.specs.JoinParts.{CountsReason}
use Rattle.flutejoin.specs.Refused.{AreReasons, AreRefusedFor, count_for}
use Rattle.flutejoin.specs.declared.join.reasons.Reasons.{Reasons}
use Rattle.flutejoin.proofs.Slots.{some_same}

-- each refusal is at its place, so no two are at one
refusal_at : (why : Refusal) → slice_get refusals (place why) ≡ Some why
refusal_at why = search rules

at_one_place : (m n : ℕ) (why other : Refusal) → m ≡ n → slice_get refusals m ≡ Some why
    → slice_get refusals n ≡ Some other → why ≡ other
at_one_place m n why other same here there = some_same _ _ _ (rw (← same) here) there

same_or_other : (why other : Refusal) → (why ≡ other) ⊎ (why ≢ other)
same_or_other why other = elim (cases_eq (place why) (place other)) [
  | inl e ↦ inl (at_one_place _ _ _ _ e (refusal_at _) (refusal_at _))
  | inr n ↦ inr (λ e. n (ap place e))
]

-- a datagram more
refused_more : (why : Refusal) (ds : List (List ℕ)) (d : List ℕ) (m n : ℕ) → AreRefusedFor why m ds
    → (Refuses d why × (n ≡ m + 1)) ⊎ (¬ Refuses d why × (n ≡ m))
    → AreRefusedFor why n (ds ++ d ∷ [])
refused_more _ [] d m n h one = (m, h, one)
refused_more why (e ∷ ds) d m n h (inl is) = (
  h.0 + 1,
  refused_more _ ds d _ _ h.1
      (inl (is.0, refl)),
  elim h.2 [
    | inl own ↦ inl (own.0, omega arith)
    | inr own ↦ inr (own.0, omega arith)
  ],
)
refused_more why (e ∷ ds) d m n h (inr is) = (
  h.0,
  refused_more _ ds d _ _ h.1 (inr (is.0, refl)),
  elim h.2 [ inl own ↦ inl (own.0, omega arith) | inr own ↦ inr (own.0, omega arith) ],
)

pub reasons_more : (old new : Reasons) (ds : List (List ℕ)) (d : List ℕ) → AreReasons old ds
    → CountsReason old d new → AreReasons new (ds ++ d ∷ [])
reasons_more old new ds d all one = λ why. refused_more _ _ d _ _ (all why) (one why)

-- what `read` returns of a datagram tells why it is refused
abbrev Tells : List ℕ → Result Content Refusal → Type 0
Tells d result = (why : Refusal) → (result ≡ Err why) ↔ Refuses d why

module _ (old : Reasons) (d : List ℕ) where
  -- it is a packet
  pub counts_none : (p : Content) → Tells d (Ok p) → CountsReason old d old
  counts_none p tells = λ why. inr ((λ refuses. let e = (tells why).1 refuses in absurd cc), refl)

  -- it is refused for this reason, of which there is one more
  pub counts_one : (new : Reasons) (first : Refusal) → Tells d (Err first)
      → count_for new first ≡ count_for old first + 1
      → ((other : Refusal) → other ≢ first → count_for new other ≡ count_for old other)
      → CountsReason old d new
  counts_one new first tells one others = λ why. elim (same_or_other _ _) [
    | inl e ↦ inl ((tells why).0 (ap Err (sym e)), rw e one)
    | inr other ↦ inr
        ((λ refuses. let e = (tells why).1 refuses in other cc), others why other)
  ]
