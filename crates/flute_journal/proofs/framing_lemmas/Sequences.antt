-- Bytes spelled item by item determine the items, and stop at one fault.
use Rattle.std.proofs.lemmas.Grind.{common_steps}
use Rattle.std.proofs.Common.{rules}
use Rattle.flute_journal.proofs.Common.{none-some, same_Some, ◌≡◌, ℕ, ◌<◌, ◌≤◌}
use Rattle.flute_journal.proofs.Common.{List, [], ◌∷◌, ◌++◌, length, Option, Some, None}
use Rattle.flute_journal.proofs.Common.{inl, inr, ◌⊎◌, refl, sym, ap, ◌∙◌}
use Rattle.flute_journal.proofs.Common.{append-nil, arith, flat_map, AllByRecursion, cases_lt}
use Rattle.flute_journal.proofs.Common.{length-append, ReadFault}
use Rattle.flute_journal.specs.declared.fault.ReadFault.TheVariants as faults

module _ {T : Type 0} (spell : T → List ℕ) where
  -- the second list begins with the first, and the bytes after the first are the rest of both
  pub record GoesOn (es fs : List T) (r s : List ℕ) : Type 0 where
    pub more : List T
    pub items : fs ≡ es ++ more
    pub bytes : r ≡ flat_map spell more ++ s

  cons_goes : (x y : T) (es fs : List T) (r s : List ℕ) → x ≡ y → GoesOn es fs r s
      → GoesOn (x ∷ es) (y ∷ fs) r s
  cons_goes x y es fs r s e h = search rules

  grouped : (x : T) (xs : List T) (r : List ℕ)
      → flat_map spell (x ∷ xs) ++ r ≡ spell x ++ (flat_map spell xs ++ r)
  grouped x xs r = grind (arith, common_steps)

  module _ (fault : List T → List ℕ → Option ReadFault) where
    -- none of these items is at fault
    abbrev pub Passes : List T → Type 0
    Passes all = (front : List T) (x : T) (xs : List T) (r : List ℕ) → all ≡ front ++ x ∷ xs → fault
        front (spell x ++ r) ≡ None

    -- none that is within the bound
    abbrev pub PassesWithin : ℕ → List T → Type 0
    PassesWithin limit all = (front : List T) (x : T) (xs : List T) (r : List ℕ) → all ≡ front ++ x
        ∷ xs → length front < limit → fault front (spell x ++ r) ≡ None

    -- valid items without a fault, and the fault of the bytes after them
    pub record IsStop (IsIt : T → Type 0) (items : List T) (rest : List ℕ) (f : ReadFault)
        : Type 0 where
      pub passes : Passes items
      pub valid : AllByRecursion IsIt items
      pub stops : fault items rest ≡ Some f

  module _ (IsIt : T → Type 0) (injective : (x y : T) (r s : List ℕ) → IsIt x → IsIt y
      → spell x ++ r ≡ spell y ++ s → (x ≡ y) × (r ≡ s)) where
    go_on : (es fs : List T) (r s : List ℕ) → AllByRecursion IsIt es → AllByRecursion IsIt fs →
        flat_map spell es ++ r ≡ flat_map spell fs ++ s → GoesOn es fs r s ⊎ GoesOn fs es s r
    go_on [] fs r s p q e = inl (record { more = fs; items = refl; bytes = e })
    go_on (x ∷ es) [] r s p q e = inr (record { more = x ∷ es; items = refl; bytes = sym e })
    go_on (x ∷ es) (y ∷ fs) r s p q e =
        let here = injective x y (flat_map spell es ++ r) (flat_map spell fs ++ s) p.0 q.0
        (sym (grouped x es r) ∙ e ∙ grouped y fs s) in elim (go_on es fs r s p.1 q.1 here.1) [
          | inl h ↦ inl (cons_goes x y es fs r s here.0 h)
          | inr h ↦ inr (cons_goes y x fs es s r (sym here.0) h)
        ]

    -- if no item follows the second list, the second list begins with the first
    pub begins : (es fs : List T) (r s : List ℕ) → ((x : T) (y : List ℕ) → s ≡ spell x ++ y → ⊥) →
        AllByRecursion IsIt es → AllByRecursion IsIt fs → flat_map spell es ++ r ≡ flat_map spell fs
        ++ s → GoesOn es fs r s
    begins [] fs r s none p q e = record { more = fs; items = refl; bytes = e }
    begins (x ∷ es) [] r s none p q e =
        absurd (none x (flat_map spell es ++ r) (sym e ∙ grouped x es r))
    begins (x ∷ es) (y ∷ fs) r s none p q e =
        let here = injective x y (flat_map spell es ++ r) (flat_map spell fs ++ s) p.0 q.0
        (sym (grouped x es r) ∙ e ∙ grouped y fs s) in
        cons_goes x y es fs r s here.0 (begins es fs r s none p.1 q.1 here.1)

    module _ (fault : List T → List ℕ → Option ReadFault) where
      goes_one : {es fs : List T} {r s : List ℕ} (f g : ReadFault) → Passes fault fs → GoesOn es fs
          r s → fault es r ≡ Some f → fault fs s ≡ Some g → (es ≡ fs) × (f ≡ g)
      goes_one {es = es} {fs = fs} {r = r} {s = s} f g passes h a b = by_more h.more h.items h.bytes
        where
          by_more : (more : List T) → fs ≡ es ++ more → r ≡ flat_map spell more ++ s
              → (es ≡ fs) × (f ≡ g)
          by_more [] i e = let same : es ≡ fs =
              sym (i ∙ append-nil es) in
              (same, same_Some f g (sym a ∙ ap (fault es) e ∙ ap (λ l. fault l s) same ∙ b))
          by_more (x ∷ more) i e =
              absurd (none-some f (sym (passes es x more (flat_map spell more ++ s) i)
              ∙ ap (fault es) (sym (e ∙ grouped x more s)) ∙ a))

      -- bytes stop at one fault, after one list of items
      pub one_stop : {es fs : List T} {r s : List ℕ} {f g : ReadFault}
          → IsStop fault IsIt es r f → IsStop fault IsIt fs s g
          → flat_map spell es ++ r ≡ flat_map spell fs ++ s → (es ≡ fs) × (f ≡ g)
      one_stop {es = es} {fs = fs} {r = r} {s = s} {f = f} {g = g} p q e = elim
          (go_on es fs r s p.valid q.valid e) [
            | inl h ↦ goes_one f g q.passes h p.stops q.stops
            | inr h ↦ let o = goes_one g f p.passes h q.stops p.stops in (sym o.0, sym o.1)
          ]

      -- if items without a fault after them also stop, there are more of them than the bound
      pub stop_at_bound : (limit : ℕ) {es fs : List T} {r s : List ℕ} (f : ReadFault) → PassesWithin
          fault limit fs →
          ((x : T) (y : List ℕ) → limit ≤ length es → fault es (spell x ++ y) ≡ Some faults.TooMany)
          → GoesOn es fs r s → fault fs s ≡ None → fault es r ≡ Some f → (f ≡ faults.TooMany) ×
          (limit < length fs)
      stop_at_bound limit {es = es} {fs = fs} {r = r} {s = s} f passes many h none a =
          by_more h.more h.items h.bytes
        where
          by_more : (more : List T) → fs ≡ es ++ more → r ≡ flat_map spell more ++ s
              → (f ≡ faults.TooMany) × (limit < length fs)
          by_more [] i e =
              absurd (none-some f (sym none ∙ ap (λ l. fault l s) (i ∙ append-nil es)
              ∙ ap (fault es) (sym e) ∙ a))
          by_more (x ∷ more) i e =
              grind (arith, grouped, cases_lt, none-some, same_Some, length-append)
