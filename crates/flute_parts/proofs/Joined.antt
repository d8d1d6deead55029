-- The value of two lists of facts together, from the values of each (specs/Facts).
use Rattle.std.proofs.Common.{rules}
use Rattle.std.proofs.Common.{◌≡◌, Bool, true, false, cond, ◌&&◌, List, [], ◌∷◌}
use Rattle.std.proofs.Common.{◌++◌, Option, Some, None, refl, sym, ap, ◌∙◌, subst, inl}
use Rattle.std.proofs.Common.{inr, append-nil}
use Rattle.std.specs.List.{list_all}
use Rattle.std.proofs.lemmas.Bool.{false≢true, cases_Bool}
use Rattle.std.proofs.lemmas.List.Elements.{filter-append}
use Rattle.std.proofs.lemmas.List.Folds.{list_all-append}
use Rattle.flute_parts.specs.declared.address.Address.{Address}
use Rattle.flute_parts.specs.declared.fact.Fact.{Fact}
use Rattle.flute_parts.specs.Facts.{same_fact, conflict_at, agreed, fact_at}
use Rattle.flute_parts.specs.Equality.{fact_same, fact_itself}

unfoldable pub joined_fact : Address → Fact → Fact → Fact
joined_fact a f g = cond (same_fact f g) f (conflict_at a)

-- the join of two values at an address
abbrev pub joined : Address → Option Fact → Option Fact → Option Fact
joined a None y = y
joined a (Some f) None = Some f
joined a (Some f) (Some g) = Some (joined_fact a f g)

pub joined-same : (a : Address) (f g : Fact) → f ≡ g → joined_fact a f g ≡ f
unfolding joined_fact
joined-same a f g e =
    ap (λ b. cond b f (conflict_at a)) (subst (λ x. same_fact f x ≡ true) e (fact_itself f))

pub joined-apart : (a : Address) (f g : Fact) → same_fact f g ≡ false
    → joined_fact a f g ≡ conflict_at a
unfolding joined_fact
joined-apart a f g e = search rules

-- with the conflict nothing but the conflict comes out
pub joined-conflict_left : (a : Address) (g : Fact)
    → joined_fact a (conflict_at a) g ≡ conflict_at a
unfolding joined_fact
joined-conflict_left a g = search rules

pub joined-conflict_right : (a : Address) (f : Fact)
    → joined_fact a f (conflict_at a) ≡ conflict_at a
unfolding joined_fact
joined-conflict_right a f = search rules

apart-sym : (f g : Fact) → same_fact f g ≡ false → same_fact g f ≡ false
apart-sym f g h = elim (cases_Bool (same_fact g f)) [
  | inl e ↦ absurd (false≢true (sym h ∙ rw (← fact_same g f e) (fact_itself g)))
  | inr e ↦ e
]

-- the join is commutative and associative; a value joined with itself or with none stays
pub joined_fact-comm : (a : Address) (f g : Fact) → joined_fact a f g ≡ joined_fact a g f
joined_fact-comm a f g = elim (cases_Bool (same_fact f g)) [
  | inl e ↦ let p = fact_same f g e in joined-same a f g p ∙ p ∙ sym (joined-same a g f (sym p))
  | inr e ↦ joined-apart a f g e ∙ sym (joined-apart a g f (apart-sym f g e))
]

pub joined_fact-assoc : (a : Address) (f g h : Fact)
    → joined_fact a (joined_fact a f g) h ≡ joined_fact a f (joined_fact a g h)
joined_fact-assoc a f g h = elim (cases_Bool (same_fact f g)) [
  | inl e ↦ let p = fact_same f g e in elim (cases_Bool (same_fact g h)) [
    | inl d ↦ let q = fact_same g h d in ap (λ x. joined_fact a x h) (joined-same a f g p)
        ∙ joined-same a f h (p ∙ q) ∙ sym (joined-same a f g p) ∙ ap (joined_fact a f)
        (sym (joined-same a g h q))
    | inr d ↦ ap (λ x. joined_fact a x h) (joined-same a f g p ∙ p) ∙ joined-apart a g h d
        ∙ sym (joined-conflict_right a f) ∙ ap (joined_fact a f)
        (sym (joined-apart a g h d))
  ]
  | inr e ↦ elim (cases_Bool (same_fact g h)) [
    | inl d ↦ let q = fact_same g h d in ap (λ x. joined_fact a x h) (joined-apart a f g e)
        ∙ joined-conflict_left a h ∙ sym (joined-apart a f g e) ∙ ap (joined_fact a f)
        (sym (joined-same a g h q))
    | inr d ↦ ap (λ x. joined_fact a x h) (joined-apart a f g e) ∙ joined-conflict_left a h
        ∙ sym (joined-conflict_right a f) ∙ ap (joined_fact a f)
        (sym (joined-apart a g h d))
  ]
]

pub joined-comm : (a : Address) (x y : Option Fact) → joined a x y ≡ joined a y x
joined-comm x0 x1 x2 = search (rules, joined_fact-comm)

pub joined-assoc : (a : Address) (x y z : Option Fact)
    → joined a (joined a x y) z ≡ joined a x (joined a y z)
joined-assoc x0 x1 x2 x3 = search (rules, joined_fact-assoc)

pub joined-itself : (a : Address) (x : Option Fact) → joined a x x ≡ x
joined-itself x0 x1 = search (rules, joined-same)

pub joined-none : (a : Address) (x : Option Fact) → joined a x None ≡ x
joined-none x0 x1 = search rules

-- agreed facts, list by list

abbrev choice : Address → Fact → Bool → Fact
choice a f b = cond b f (conflict_at a)

agreed_heads : (a : Address) (f g : Fact) (gs : List Fact)
    → choice a f (same_fact f g && list_all (same_fact f) gs)
    ≡ joined_fact a f (choice a g (list_all (same_fact g) gs))
agreed_heads a f g gs = elim (cases_Bool (same_fact f g)) [
  | inr e ↦ ap (λ b. choice a f (b && list_all (same_fact f) gs)) e ∙ elim
      (cases_Bool (list_all (same_fact g) gs)) [
        | inl d ↦ sym (joined-apart a f g e) ∙ sym (ap (λ b. joined_fact a f (choice a g b)) d)
        | inr d ↦ sym (joined-conflict_right a f) ∙ sym
            (ap (λ b. joined_fact a f (choice a g b)) d)
      ]
  | inl e ↦ let p = fact_same f g e in ap (λ b. choice a f (b && list_all (same_fact f) gs)) e
      ∙ ap (λ x. choice a f (list_all (same_fact x) gs)) p ∙ elim
      (cases_Bool (list_all (same_fact g) gs)) [
        | inl d ↦ ap (choice a f) d ∙ sym (joined-same a f g p) ∙ sym
            (ap (λ b. joined_fact a f (choice a g b)) d)
        | inr d ↦ ap (choice a f) d ∙ sym (joined-conflict_right a f) ∙ sym
            (ap (λ b. joined_fact a f (choice a g b)) d)
      ]
]

-- the first list's facts agree or not, and so do the second's
agreed_pair : (a : Address) (f g : Fact) (fs gs : List Fact) → choice a f
    (list_all (same_fact f) fs && (same_fact f g && list_all (same_fact f) gs)) ≡ joined_fact a
    (choice a f (list_all (same_fact f) fs)) (choice a g (list_all (same_fact g) gs))
agreed_pair a f g fs gs = search (rules, cases_Bool, joined-conflict_left, agreed_heads)

agreed-append : (a : Address) (xs ys : List Fact)
    → agreed a (xs ++ ys) ≡ joined a (agreed a xs) (agreed a ys)
agreed-append a [] ys = refl
agreed-append a (f ∷ fs) [] = ap (agreed a) (append-nil (f ∷ fs))
agreed-append a (f ∷ fs) (g ∷ gs) = search (rules, list_all-append, agreed_pair)

-- the value of two lists together is the join of their values
pub fact_at-append : (F G : List Fact) (a : Address)
    → fact_at (F ++ G) a ≡ joined a (fact_at F a) (fact_at G a)
unfolding fact_at
fact_at-append F G a = search (rules, filter-append, agreed-append)
