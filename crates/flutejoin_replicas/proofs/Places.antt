-- One replica changed, among the others.
use Rattle.std.proofs.Common.{◌≡◌, ◌≢◌, ℕ, List, [], ◌++◌, refl, sym, ◌∙◌, ap, subst, arith, ◌<◌}
use Rattle.std.proofs.Common.{◌≤◌, length, get_or, inl, inr}
use Rattle.std.proofs.Math.ListN.{set, length-set}
use Rattle.std.proofs.lemmas.Bool.{cases_eq, cases_lt}
use Rattle.std.proofs.lemmas.List.{get_or-set_same, get_or-set_other, set_past, set-get_or}
use Rattle.flute_parts.specs.declared.fact.Fact.{Fact}
use Rattle.flute_parts.specs.Facts.{Same, Below}
use Rattle.flute_parts.proofs.Public.{Below-append, Below-from_Same, Below-itself, Below-trans}
use Rattle.flute_parts.proofs.Public.{Same-append, Same-itself, Same-sym, Same-trans}
use Rattle.flutejoin_replicas.specs.Steps.{held_by, given_to, EachSame, EachBelow}
use Rattle.flutejoin.proofs.Public.{Below-left}

pub EachSame-itself : (A : List (List Fact)) → EachSame A A
EachSame-itself A = record { count = refl; each = λ r. Same-itself (held_by A r) }

pub EachSame-sym : (A B : List (List Fact)) → EachSame A B → EachSame B A
EachSame-sym A B h =
    record { count = sym h.count; each = λ r. Same-sym (held_by A r) (held_by B r) (h.each r) }

pub EachSame-trans : (A B C : List (List Fact)) → EachSame A B → EachSame B C → EachSame A C
EachSame-trans A B C h k =
    record {
      count = h.count ∙ k.count;
      each =
          λ r. Same-trans (held_by A r) (held_by B r) (held_by C r) (h.each r) (k.each r);
    }

pub EachBelow-itself : (A : List (List Fact)) → EachBelow A A
EachBelow-itself A = record { count = refl; each = λ r. Below-itself (held_by A r) }

pub EachBelow-from_same : (A B : List (List Fact)) → EachSame A B → EachBelow A B
EachBelow-from_same A B h =
    record { count = h.count; each = λ r. Below-from_Same (held_by A r) (held_by B r) (h.each r) }

pub EachBelow-trans : (A B C : List (List Fact)) → EachBelow A B → EachBelow B C → EachBelow A C
EachBelow-trans A B C h k =
    record {
      count = h.count ∙ k.count;
      each =
          λ r. Below-trans (held_by A r) (held_by B r) (held_by C r) (h.each r) (k.each r);
    }

-- P holds at each replica, if it does of what one was set to and of what the others held before
pub each_set : (P : ℕ → List Fact → Type 0) (A : List (List Fact)) (i : ℕ) (x : List Fact)
    → i < length A → P i x → ((r : ℕ) → r ≢ i → P r (held_by A r)) → (r : ℕ)
    → P r (held_by (set A i x) r)
each_set P A i x within here others r =
    elim (cases_eq r i) [
      | inl e ↦
          let Q : ℕ → Type 0 = λ q. P q (held_by (set A i x) q) in
          subst Q (sym e) (rw (get_or-set_same A i x []) here)
      | inr ne ↦ rw (get_or-set_other A i r x [] ne) (others r ne)
    ]

pub EachSame-set : (A B : List (List Fact)) (i : ℕ) (x y : List Fact) → i < length A → EachSame A B
    → Same x y → EachSame (set A i x) (set B i y)
EachSame-set A B i x y within h same =
    record {
      count = length-set A i x ∙ h.count ∙ sym (length-set B i y);
      each = each_set (λ r l. Same l (held_by (set B i y) r)) A i x within
          (rw (get_or-set_same B i y [] (omega (arith, h.count))) same)
          (λ r ne. rw (get_or-set_other B i r y [] ne) (h.each r));
    }

pub EachBelow-set : (A B : List (List Fact)) (i : ℕ) (x y : List Fact) → i < length A
    → EachBelow A B → Below x y → EachBelow (set A i x) (set B i y)
EachBelow-set A B i x y within h below =
    record {
      count = length-set A i x ∙ h.count ∙ sym (length-set B i y);
      each = each_set (λ r l. Below l (held_by (set B i y) r)) A i x within
          (rw (get_or-set_same B i y [] (omega (arith, h.count))) below)
          (λ r ne. rw (get_or-set_other B i r y [] ne) (h.each r));
    }

-- setting an element to its own value changes nothing
pub set_same : {X : Type 0} → (xs : List X) (i : ℕ) (x : X) → x ≡ get_or xs i x → set xs i x ≡ xs
set_same xs i x e = ap (set xs i) e ∙ set-get_or xs i x

-- more is given to a replica
pub given_to-same : (A : List (List Fact)) (i : ℕ) (more content : List Fact) → i < length A
    → Same content (held_by A i ++ more) → EachSame (given_to A i more) (set A i content)
given_to-same A i more content within h =
    EachSame-set A A i (held_by A i ++ more) content within (EachSame-itself A)
    (Same-sym content (held_by A i ++ more) h)

-- the same is given to replicas that hold the same
pub given_to-each_same : (A B : List (List Fact)) (i : ℕ) (more less : List Fact) → EachSame A B
    → Same more less → EachSame (given_to A i more) (given_to B i less)
given_to-each_same A B i more less h same =
    elim (cases_lt i (length A)) [
      | inl within ↦
          EachSame-set A B i (held_by A i ++ more) (held_by B i ++ less) within h
          (Same-append (held_by A i) (held_by B i) more less (h.each i) same)
      | inr past ↦
          let e : set A i (held_by A i ++ more) ≡ A = set_past A i (held_by A i ++ more) past in
          let past_B : length B ≤ i = omega (arith, h.count) in
          let d : set B i (held_by B i ++ less) ≡ B = set_past B i (held_by B i ++ less) past_B in
          rw (e, d) h
    ]

pub given_to-each_below : (A B : List (List Fact)) (i : ℕ) (more less : List Fact) → EachBelow A B
    → Below more less → EachBelow (given_to A i more) (given_to B i less)
given_to-each_below A B i more less h below =
    elim (cases_lt i (length A)) [
      | inl within ↦
          EachBelow-set A B i (held_by A i ++ more) (held_by B i ++ less) within h
          (Below-append (held_by A i) (held_by B i) more less (h.each i) below)
      | inr past ↦
          let e : set A i (held_by A i ++ more) ≡ A = set_past A i (held_by A i ++ more) past in
          let past_B : length B ≤ i = omega (arith, h.count) in
          let d : set B i (held_by B i ++ less) ≡ B = set_past B i (held_by B i ++ less) past_B in
          rw (e, d) h
    ]

-- what was held is below what is held with more
pub given_to-above : (A : List (List Fact)) (i : ℕ) (more : List Fact)
    → EachBelow A (given_to A i more)
given_to-above A i more =
    record {
      count = sym (length-set A i (held_by A i ++ more));
      each = λ r.
          elim (cases_eq r i) [
            | inl e ↦
                elim (cases_lt i (length A)) [
                  | inl within ↦
                      let P : ℕ → Type 0 =
                      λ q. Below (held_by A q) (held_by (given_to A i more) q) in
                      subst P (sym e) (rw (get_or-set_same A i (held_by A i ++ more) [])
                      (Below-left (held_by A i) more))
                  | inr past ↦
                      rw (set_past A i (held_by A i ++ more) past) (Below-itself (held_by A r))
                ]
            | inr ne ↦
                rw (get_or-set_other A i r (held_by A i ++ more) [] ne) (Below-itself (held_by A r))
          ];
    }
