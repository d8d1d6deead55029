-- Rising lists of facts, and one that begins with another.
use Rattle.std.proofs.Common.{rules}
use Rattle.flute_journal.proofs.Common.{none-some, same_Some, ◌≡◌, false, true, List, [], ◌∷◌, ◌++◌}
use Rattle.flute_journal.proofs.Common.{Option, Some, None, IsTrue, refl, sym, ap, ◌∙◌, subst, inl}
use Rattle.flute_journal.proofs.Common.{inr, false≢true, cases_Bool, Ordering, Less, Equal, Greater}
use Rattle.flute_journal.proofs.Common.{is_lt, is_eq, address_cmp, same_address, address, fact_at}
use Rattle.flute_journal.proofs.Common.{address_same, address_total, Address, Fact, fact_at-nil}
use Rattle.flute_journal.proofs.Common.{fact_at-here, fact_at-elsewhere, is_after, last_of, Same}
use Rattle.flute_journal.proofs.Common.{joined-comm, joined-assoc, joined-none}
use Rattle.flute_journal.proofs.Common.{fact_at-append, StandAfter, IsRising, StandAfter-before}
use Rattle.std.specs.Ordering.{ordering_reverse}

-- each address is above the one before it, the first above the last one
abbrev pub Rises : Option Address → List Fact → Type 0
Rises last [] = Unit {0}
Rises last (f ∷ fs) = IsTrue (is_after last (address f)) × Rises (Some (address f)) fs

pub less_is : (o : Ordering) → is_lt o ≡ true → o ≡ Less
less_is o e = search rules

after-rises : (a : Address) (fs : List Fact) → StandAfter a fs → IsRising fs → Rises (Some a) fs
after-rises a [] s r = tt
after-rises a (f ∷ fs) s r = (ap is_lt s.0, after-rises (address f) fs r.0 r.1)

pub rising-rises : (fs : List Fact) → IsRising fs → Rises None fs
rising-rises [] r = tt
rising-rises (f ∷ fs) r = (refl, after-rises (address f) fs r.0 r.1)

rises-after : (a : Address) (fs : List Fact) → Rises (Some a) fs → StandAfter a fs × IsRising fs
rises-after a [] r = (tt, tt)
rises-after a (f ∷ fs) r = search (
  rules,
  less_is,
  StandAfter-before,
  rises-after (address f) fs
      r.1,
)

pub rises-rising : (fs : List Fact) → Rises None fs → IsRising fs
rises-rising [] r = tt
rises-rising (f ∷ fs) r = rises-after (address f) fs r.1

-- addresses, one after another

less : (a b : Address) → IsTrue (is_after (Some a) b) → address_cmp a b ≡ Less
less a b h = less_is (address_cmp a b) h

pub after : (a b : Address) → address_cmp a b ≡ Less → IsTrue (is_after (Some a) b)
after a b h = ap is_lt h

pub turned_less : (a b : Address) → address_cmp a b ≡ Greater → address_cmp b a ≡ Less
turned_less a b h = address_total.antisymm b a ∙ ap ordering_reverse h

after-trans : (l : Option Address) (a b : Address) → IsTrue (is_after l a)
    → IsTrue (is_after (Some a) b) → IsTrue (is_after l b)
after-trans None a b h k = refl
after-trans (Some l) a b h k = after l b (address_total.trans l a b (less l a h) (less a b k))

not_after_itself : (a : Address) → is_after (Some a) a ≡ false
not_after_itself a = search rules

-- what isn't after one address isn't after a later one
not_after-later : (l : Option Address) (a b : Address) → IsTrue (is_after l a)
    → is_after l b ≡ false → is_after (Some a) b ≡ false
not_after-later l a b h n = elim (cases_Bool (is_after (Some a) b)) [
  | inl t ↦ absurd (false≢true (sym n ∙ after-trans l a b h t))
  | inr f ↦ f
]

not_same : (a b : Address) → address_cmp a b ≡ Less → same_address a b ≡ false
not_same a b e = ap is_eq e

not_same-after : (l : Option Address) (a b : Address) → IsTrue (is_after l a)
    → is_after l b ≡ false → same_address a b ≡ false
not_same-after l a b h n = elim (cases_Bool (same_address a b)) [
  | inl t ↦ absurd (false≢true (sym n ∙ subst (λ x. IsTrue (is_after l x)) (address_same a b t) h))
  | inr f ↦ f
]

-- the value of rising facts at an address

-- facts that rise after an address have no value at that address or before it
pub rising-none : (l : Option Address) (es : List Fact) (a : Address) → Rises l es
    → is_after l a ≡ false → fact_at es a ≡ None
rising-none l [] a r n = fact_at-nil a
rising-none l (f ∷ fs) a r n = search (
  rules,
  fact_at-elsewhere,
  not_same-after,
  not_after-later,
  rising-none (Some (address f)) fs a r.1 (not_after-later l (address f) a r.0 n),
)

rising-head : (l : Option Address) (f : Fact) (fs : List Fact) → Rises l (f ∷ fs)
    → fact_at (f ∷ fs) (address f) ≡ Some f
rising-head l f fs r = search (rules, fact_at-here, rising-none, not_after_itself)

-- what isn't after an address isn't after the last one
not_after-last : (l : Address) (es : List Fact) (a : Address) → Rises (Some l) es
    → is_after (Some l) a ≡ false → is_after (last_of (Some l) es) a ≡ false
not_after-last l [] a r n = n
not_after-last l (f ∷ fs) a r n =
    not_after-last (address f) fs a r.1 (not_after-later (Some l) (address f) a r.0 n)

-- a rising list begins with another if both have the same values up to the other's last address
pub rising-prefix : (l : Option Address) (M E : List Fact) → Rises l M → Rises l E
    → ((a : Address) → is_after (last_of l M) a ≡ false → fact_at M a ≡ fact_at E a)
    → (rest : List Fact) × (E ≡ M ++ rest)
rising-prefix l [] E r s h = (E, refl)
rising-prefix l (m ∷ M) [] r s h = absurd (none-some m (sym (fact_at-nil (address m)) ∙ sym
    (h (address m) (not_after-last (address m) M (address m) r.1 (not_after_itself (address m)))) ∙
    rising-head l m M r))
rising-prefix l (m ∷ M) (e ∷ E) r s h =
    by_order (λ p. rising-prefix (Some (address m)) M E r.1
    (subst (λ x. Rises (Some x) E) (sym p) s.1) (same_tail p))
    (address_cmp (address m) (address e)) refl
  where
    here : fact_at (m ∷ M) (address m) ≡ fact_at (e ∷ E) (address m)
    here = h (address m) (not_after-last (address m) M (address m) r.1
        (not_after_itself (address m)))

    same_tail : address m ≡ address e → (a : Address)
        → is_after (last_of (Some (address m)) M) a ≡ false → fact_at M a ≡ fact_at E a
    same_tail p a n = elim (cases_Bool (is_after (Some (address m)) a)) [
      | inl t ↦
          sym (fact_at-elsewhere m M a (not_same (address m) a (less (address m) a t)))
          ∙ h a n
          ∙ fact_at-elsewhere e E a (not_same (address e) a
          (less (address e) a (subst (λ x. IsTrue (is_after (Some x) a)) p t)))
      | inr f ↦
          rising-none (Some (address m)) M a r.1 f
          ∙ sym (rising-none (Some (address e)) E a s.1
          (subst (λ x. is_after (Some x) a ≡ false) p f))
    ]

    by_order : (address m ≡ address e → (rest : List Fact) × (E ≡ M ++ rest))
        → (o : Ordering) → address_cmp (address m) (address e) ≡ o
        → (rest : List Fact) × (e ∷ E ≡ (m ∷ M) ++ rest)
    by_order tail Less o = absurd (none-some m (
        sym (rising-none (Some (address m)) (e ∷ E) (address m)
        (after (address m) (address e) o, s.1) (not_after_itself (address m)))
        ∙ sym here ∙ rising-head l m M r))
    by_order tail Greater o =
        let lower = turned_less (address m) (address e) o in
        let out = not_after-later (Some (address e)) (address m) (address e)
        (after (address e) (address m) lower) (not_after_itself (address e)) in
        absurd (none-some e (
        sym (rising-none (Some (address e)) (m ∷ M) (address e)
        (after (address e) (address m) lower, r.1) (not_after_itself (address e)))
        ∙ h (address e) (not_after-last (address m) M (address e) r.1 out)
        ∙ rising-head l e E s))
    by_order tail Equal o =
        let p = address_same (address m) (address e) (ap is_eq o) in
        let q : m ≡ e =
        same_Some m e (sym (rising-head l m M r) ∙ here ∙ ap (fact_at (e ∷ E)) p
        ∙ rising-head l e E s) in
        let rest = tail p in
        (rest.0, ap (λ (z : Fact). z ∷ E) (sym q) ∙ ap (λ (zs : List Fact). m ∷ zs) rest.1)

-- the last address, and the second part of a rising list

pub last_of-snoc : (l : Option Address) (es : List Fact) (f : Fact)
    → last_of l (es ++ f ∷ []) ≡ Some (address f)
last_of-snoc l [] f = refl
last_of-snoc l (e ∷ es) f = last_of-snoc (Some (address e)) es f

pub Rises-second : (l : Option Address) (es fs : List Fact) → Rises l (es ++ fs)
    → Rises (last_of l es) fs
Rises-second l [] fs r = r
Rises-second l (e ∷ es) fs r = Rises-second (Some (address e)) es fs r.1

-- two lists, of which the second has nothing at an address

pub fact_at-second_none : (F G : List Fact) (a : Address) → fact_at G a ≡ None
    → fact_at (F ++ G) a ≡ fact_at F a
fact_at-second_none F G a q = search (rules, fact_at-append, joined-none)

-- the two lists in the middle may be exchanged
pub Same-crossed : (F G H K : List Fact) → Same ((F ++ G) ++ (H ++ K)) ((F ++ H) ++ (G ++ K))
Same-crossed F G H K = search (rules, fact_at-append, joined-assoc, joined-comm)
