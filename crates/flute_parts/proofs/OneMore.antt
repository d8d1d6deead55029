-- One more fact at the end: the names it adds, and its place in the order (specs/Limits).
use Rattle.std.proofs.Common.{rules}
use Rattle.std.proofs.Common.{◌≡◌, ℕ, ◌+◌, Bool, true, false, cond, not, List, []}
use Rattle.std.proofs.Common.{◌∷◌, ◌++◌, length, Option, Some, None, refl, sym, ap}
use Rattle.std.proofs.Common.{◌∙◌, subst, inl, inr, append-nil, length-append, ◌||◌}
use Rattle.std.proofs.Common.{arith}
use Rattle.std.specs.List.{cons_option}
use Rattle.std.specs.declared.cmp.Ordering.{Ordering}
use Rattle.std.specs.declared.cmp.Ordering.TheVariants.{Less, Equal, Greater}
use Rattle.std.specs.Ordering.{is_eq, ordering_reverse}
use Rattle.std.proofs.lemmas.Bool.{false≢true, cases_Bool}
use Rattle.std.proofs.lemmas.List.Elements.{filter-append, filter_map-append}
use Rattle.flute_parts.specs.Session.{Session}
use Rattle.flute_parts.specs.declared.object_key.ObjectName.{ObjectName}
use Rattle.flute_parts.specs.declared.key.Key.{Key}
use Rattle.flute_parts.specs.declared.symbol_id.SymbolId.{SymbolId}
use Rattle.flute_parts.specs.declared.address.Part.TheVariants.{Symbol as SymbolPart}
use Rattle.flute_parts.specs.declared.address.Address.{Address}
use Rattle.flute_parts.specs.declared.fact.Fact.{Fact}
use Rattle.flute_parts.specs.Order.{session_cmp, key_cmp, address_cmp}
use Rattle.flute_parts.specs.Order.{same_session, same_key}
use Rattle.flute_parts.specs.Addresses.{address}
use Rattle.flute_parts.specs.Facts.{StandAfter, IsRising}
use Rattle.flute_parts.specs.Limits.{firsts, named, symbol_in, object_of, symbol_of}
use Rattle.flute_parts.proofs.Counted.{Tells, has, others, swapped, length-firsts}
use Rattle.flute_parts.proofs.Facts.{Member}
use Rattle.flute_parts.proofs.Rising.{member-after}
use Rattle.flute_parts.proofs.Named.{named-member, named-names}

-- ---- one element more

module _ {X : Type 0} (same : X → X → Bool) (t : Tells same) where
  others-more : (y x : X) (xs : List X) (b : Bool) → same y x ≡ b
      → others same t y (xs ++ x ∷ []) ≡ others same t y xs ++ cond (not b) (x ∷ []) []
  others-more y x xs b e = search (rules, filter-append)

  firsts-new : (x : X) (xs : List X) → has same t x xs ≡ false
      → firsts same (xs ++ x ∷ []) ≡ firsts same xs ++ x ∷ []
  firsts-new x [] h = refl
  firsts-new x (y ∷ ys) h = elim (cases_Bool (same x y)) [
    | inl e ↦ search rules
    | inr e ↦ ap (λ zs. y ∷ others same t y zs)
        (firsts-new x ys (sym (ap (λ b. b || has same t x ys) e) ∙ h)) ∙ ap (λ zs. y ∷ zs)
        (others-more y x (firsts same ys) false (swapped same t x y e))
  ]

  firsts-again : (x : X) (xs : List X) → has same t x xs ≡ true
      → firsts same (xs ++ x ∷ []) ≡ firsts same xs
  firsts-again x [] h = absurd (false≢true h)
  firsts-again x (y ∷ ys) h = elim (cases_Bool (has same t x ys)) [
    | inl e ↦ ap (λ zs. y ∷ others same t y zs) (firsts-again x ys e)
    | inr e ↦ elim (cases_Bool (same x y)) [
      | inl d ↦ let back : same y x ≡ true = subst (λ w. same w x ≡ true) (t.sound x y d)
          (t.itself x) in ap (λ zs. y ∷ others same t y zs) (firsts-new x ys e) ∙ ap
          (λ zs. y ∷ zs) (others-more y x (firsts same ys) true back ∙ append-nil
          (others same t y (firsts same ys)))
      | inr d ↦ absurd (false≢true (sym e ∙ sym (ap (λ b. b || has same t x ys) d) ∙ h))
    ]
  ]

-- ---- one fact more

module _ {X : Type 0} (same : X → X → Bool) (t : Tells same) (part : Address → Option X) where
  abbrev count_of : List Fact → ℕ
  count_of F = length (firsts same (named part F))

  named-more : (F : List Fact) (f : Fact) (o : Option X) → part (address f) ≡ o
      → named part (F ++ f ∷ []) ≡ named part F ++ cons_option o []
  named-more F f o e = search (rules, filter_map-append, named)

  -- it names nothing
  pub count-none : (F : List Fact) (f : Fact) → part (address f) ≡ None
      → count_of (F ++ f ∷ []) ≡ count_of F
  count-none F f e = search (rules, firsts, named-more, named)

  -- it names what one of them names
  pub count-again : (F : List Fact) (f g : Fact) (x : X) → part (address f) ≡ Some x
      → Member g F → part (address g) ≡ Some x → count_of (F ++ f ∷ []) ≡ count_of F
  count-again F f g x e m d = ap (λ xs. length (firsts same xs)) (named-more F f (Some x) e) ∙ ap
      (λ xs. length xs) (firsts-again same t x (named part F) (named-member same t part g F x m d))

  -- it names what none of them names
  pub count-new : (F : List Fact) (f : Fact) (x : X) → part (address f) ≡ Some x
      → ((g : Fact) → Member g F → part (address g) ≡ Some x → ⊥)
      → count_of (F ++ f ∷ []) ≡ count_of F + 1
  count-new F f x e apart =
      let no : has same t x (named part F) ≡ false =
      elim (cases_Bool (has same t x (named part F))) [
        | inl h ↦ let n = named-names same t part F x h in absurd (apart n.0 n.1 n.2)
        | inr h ↦ h
      ] in
      ap (λ xs. length (firsts same xs)) (named-more F f (Some x) e)
      ∙ ap (λ xs. length xs) (firsts-new same t x (named part F) no)
      ∙ omega (arith, length-append (firsts same (named part F)) (x ∷ []))

  -- none of them names anything
  pub count-empty : (F : List Fact) →
      ((x : X) (g : Fact) → Member g F → part (address g) ≡ Some x → ⊥) → count_of F ≡ 0
  count-empty F apart =
      let few = length-firsts same t (named part F) []
      (λ x h. let n = named-names same t part F x h in absurd (apart x n.0 n.1 n.2)) in
      omega (arith, few)

-- ---- what addresses name

pub object_of-inside : (session : Session) (a : Address) → a.key.session ≡ session
    → object_of session a ≡ Some a.key.object
object_of-inside session a e = search rules

pub object_of-some : (session : Session) (a : Address) (x : ObjectName)
    → object_of session a ≡ Some x → (a.key.session ≡ session) × (a.key.object ≡ x)
object_of-some session a x e = search rules

pub object_of-elsewhere : (session : Session) (a : Address)
    → same_session a.key.session session ≡ false → object_of session a ≡ None
object_of-elsewhere session a e = search rules

pub symbol_of-inside : (key : Key) (a : Address) → a.key ≡ key → symbol_of key a ≡ symbol_in a.part
symbol_of-inside key a e = search rules

pub symbol_of-elsewhere : (key : Key) (a : Address) → same_key a.key key ≡ false
    → symbol_of key a ≡ None
symbol_of-elsewhere key a e = search rules

pub symbol_of-some : (key : Key) (a : Address) (x : SymbolId) → symbol_of key a ≡ Some x
    → (a.key ≡ key) × (a.part ≡ SymbolPart x)
symbol_of-some key a x e = elim (cases_Bool (same_key a.key key)) [
  | inl t ↦ search rules
  | inr t ↦ search rules
]

-- ---- the order of keys

pub keys-after : (a b : Key) → session_cmp a.session b.session ≡ Greater → key_cmp a b ≡ Greater
keys-after a b e = search rules

pub equal-is_not : (o : Ordering) → is_eq o ≡ true → o ≡ Greater → ⊥
equal-is_not o t e = search rules

-- two values neither of which is greater are equal
pub tied : (p q : Ordering) → p ≡ ordering_reverse q → (p ≡ Greater → ⊥)
    → (q ≡ Greater → ⊥) → p ≡ Equal
tied x0 x1 x2 x3 x4 = search rules

pub key-before : (a b : Address) → address_cmp a b ≡ Less → key_cmp a.key b.key ≡ Greater → ⊥
key-before a b l e = search rules

member-last : (F : List Fact) (f : Fact) → Member f (F ++ f ∷ [])
unfolding Member
member-last [] f = inl refl
member-last (g ∷ F) f = inr (member-last F f)

after-front : (a : Address) (F G : List Fact) → StandAfter a (F ++ G) → StandAfter a F
after-front a [] G s = tt
after-front a (f ∷ F) G s = (s.0, after-front a F G s.1)

pub rising-front : (F G : List Fact) → IsRising (F ++ G) → IsRising F
rising-front [] G r = tt
rising-front (f ∷ F) G r = (after-front (address f) F G r.0, rising-front F G r.1)

pub before-next : (F : List Fact) (f g : Fact) → IsRising (F ++ f ∷ []) → Member g F
    → address_cmp (address g) (address f) ≡ Less
unfolding Member
before-next [] f g r m = absurd m
before-next (h ∷ F) f g r (inl e) = search (rules, member-after, member-last)
before-next (h ∷ F) f g r (inr m) = before-next F f g r.1 m
