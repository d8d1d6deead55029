-- The facts that an object's datagrams contain (specs/Carousel: facts_sent).
use Rattle.std.proofs.Common.{◌≡◌, ℕ, zero, suc, ◌<◌, ◌⊎◌, inl, inr, List, []}
use Rattle.std.proofs.Common.{◌∷◌, length, Some, refl, sym, ap, subst, ◌∙◌, arith}
use Rattle.std.specs.Prelude.{flat_map, Contains, ◌↔◌}
use Rattle.std.proofs.lemmas.List.Concat.{flat_map-cons}
use Rattle.std.proofs.lemmas.List.Folds.{flat_map-map}
use Rattle.std.proofs.Math.Nat.{eq-zero-or-pos}
use Rattle.flute_parts.specs.Information.{Information, IsValid}
use Rattle.flute_parts.specs.declared.symbol_id.SymbolId.{SymbolId}
use Rattle.flute_parts.specs.declared.key.Key.{Key}
use Rattle.flute_parts.specs.declared.fact.Fact.{Fact}
use Rattle.flute_parts.specs.declared.fact.Fact.TheVariants.{Info, Symbol}
use Rattle.flute_parts.proofs.Public.{Contains-from, Member, Member-from}
use Rattle.flute_wire.specs.Writing.{outgoing_facts}
use Rattle.flute_wire.specs.Carousel.{symbols_of, facts_sent}
use Rattle.flute_wire.proofs.Pieces.{payloads_none, payloads_some, length-symbols_of, no_symbol}
use Rattle.flute_wire.proofs.Pieces.{some_symbol}

-- the information, or one of the symbols
abbrev pub IsSent : Key → Information → List (SymbolId × List ℕ) → Fact → Type 0
IsSent key i ss f = (f ≡ Info key i) ⊎
    ((s : SymbolId × List ℕ) × Contains ss s × (f ≡ Symbol key s.0 s.1))

later : (s : SymbolId × List ℕ) (ss : List (SymbolId × List ℕ)) (t : SymbolId × List ℕ)
    → Contains ss t → Contains (s ∷ ss) t
later s ss t (k, l, e) = (suc k, omega (arith, l), e)

module _ (key : Key) (i : Information) where
  both : SymbolId × List ℕ → List Fact
  both s = Info key i ∷ Symbol key s.0 s.1 ∷ []

  -- a fact that is sent is the information or a symbol, and each of these is sent
  from_both : (ss : List (SymbolId × List ℕ)) (f : Fact) → Member f (flat_map both ss)
      → IsSent key i ss f
  unfolding Member both
  from_both [] f m = absurd m
  from_both (s ∷ ss) f m = elim (subst (Member f) (flat_map-cons both s ss) m) [
    | inl info ↦ inl info
    | inr rest ↦ elim rest [
      | inl symbol ↦ inr (s, (0, omega arith, refl), symbol)
      | inr more ↦ elim (from_both ss f more) [
        | inl info ↦ inl info
        | inr t ↦ inr (t.0, later s ss t.0 t.1, t.2)
      ]
    ]
  ]

  to_info : (ss : List (SymbolId × List ℕ)) → 0 < length ss → Member (Info key i) (flat_map both ss)
  unfolding Member both
  to_info [] h = absurd (omega (arith, h))
  to_info (s ∷ ss) h = subst (Member (Info key i)) (sym (flat_map-cons both s ss)) (inl refl)

  to_symbol : (ss : List (SymbolId × List ℕ)) (s : SymbolId × List ℕ) → Contains ss s
      → Member (Symbol key s.0 s.1) (flat_map both ss)
  unfolding Member both
  to_symbol [] s c = absurd (omega (arith, c.1))
  to_symbol (t ∷ ss) s (zero, l, e) =
      subst (Member (Symbol key s.0 s.1)) (sym (flat_map-cons both t ss))
      (inr (inl (ap (λ (x : SymbolId × List ℕ). Symbol key x.0 x.1) (sym e))))
  to_symbol (t ∷ ss) s (suc k, l, e) = subst (Member (Symbol key s.0 s.1))
      (sym (flat_map-cons both t ss)) (inr (inr (to_symbol ss s (k, omega (arith, l), e))))

  alone : (content : List ℕ) → i.transfer_length ≡ 0 → facts_sent key i content ≡ Info key i ∷ []
  unfolding facts_sent
  alone content z = ap (flat_map (outgoing_facts key (Some i))) (payloads_none i content z)

  each : (content : List ℕ) → 0 < i.transfer_length
      → facts_sent key i content ≡ flat_map both (symbols_of i content)
  unfolding facts_sent both
  each content l = ap (flat_map (outgoing_facts key (Some i))) (payloads_some i content l) ∙
      flat_map-map (outgoing_facts key (Some i)) (λ s. Some s) (symbols_of i content)

  -- the same of the facts of all datagrams
  only : (content : List ℕ) (f : Fact) → Member f (facts_sent key i content)
      → IsSent key i (symbols_of i content) f
  unfolding Member
  only content f m = elim (eq-zero-or-pos i.transfer_length) [
    | inl z ↦ elim (subst (Member f) (alone content z) m) [
      | inl info ↦ inl info
      | inr none ↦ absurd none
    ]
    | inr l ↦ from_both (symbols_of i content) f (subst (Member f) (each content l) m)
  ]

  all : (content : List ℕ) (f : Fact) → IsValid i → IsSent key i (symbols_of i content) f
      → Member f (facts_sent key i content)
  unfolding Member
  all content f v (inl info) = elim (eq-zero-or-pos i.transfer_length) [
    | inl z ↦ subst (Member f) (sym (alone content z)) (inl info)
    | inr l ↦ let some : 0 < length (symbols_of i content) = omega
        (arith, length-symbols_of i content, some_symbol i v l) in subst
        (λ g. Member g (facts_sent key i content)) (sym info) (subst (Member (Info key i))
        (sym (each content l)) (to_info (symbols_of i content) some))
  ]
  all content f v (inr (s, c, e)) = elim (eq-zero-or-pos i.transfer_length) [
    | inl z ↦ absurd (omega (arith, c.1, length-symbols_of i content, ap length (no_symbol i v z)))
    | inr l ↦ subst (λ g. Member g (facts_sent key i content)) (sym e)
        (subst (Member (Symbol key s.0 s.1)) (sym (each content l))
        (to_symbol (symbols_of i content) s c))
  ]

pub told-iff : (key : Key) (i : Information) (content : List ℕ) (f : Fact) → IsValid i
    → Contains (facts_sent key i content) f ↔ IsSent key i (symbols_of i content) f
told-iff key i content f v = (
  λ c. only key i content f
      (Member-from (facts_sent key i content) f c),
  λ s. Contains-from (facts_sent key i content) f
      (all key i content f v s),
)
