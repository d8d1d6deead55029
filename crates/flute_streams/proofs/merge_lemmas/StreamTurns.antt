-- A turn of a merge: each stream that holds the lowest address is advanced.
use Rattle.std.proofs.Common.{rules}
use Rattle.flute_streams.proofs.Common.{Address, AllByRecursion, AreNew, Behaviour, Bool, Equal}
use Rattle.flute_streams.proofs.Common.{Fact, Gave, GoOnAt, GoesOnAt, Greater, IfSome, IsNotBefore}
use Rattle.flute_streams.proofs.Common.{IsRising, IsSized, IsTrue, Key, Less, List, Lowest, None}
use Rattle.flute_streams.proofs.Common.{Option, Ordering, Part, Same, Same-append, Same-itself}
use Rattle.flute_streams.proofs.Common.{Same-trans, Some, [], address, address_cmp}
use Rattle.flute_streams.proofs.Common.{address_same, all_of, alone-at, alone-elsewhere, ap}
use Rattle.flute_streams.proofs.Common.{append-nil, arith, cases_Bool, conflict_in, fact_at}
use Rattle.flute_streams.proofs.Common.{fact_at-cons, fact_at-elsewhere, fact_at-nil, fact_same}
use Rattle.flute_streams.proofs.Common.{false, heads, inl, inr, is_after, is_eq, joined}
use Rattle.flute_streams.proofs.Common.{joined-apart, joined-same, length, length-append, most_of}
use Rattle.flute_streams.proofs.Common.{none-some, option_list, address_of, refl, same_address}
use Rattle.flute_streams.proofs.Common.{subst, sym, true, ◌++◌, ◌+◌, ◌∙◌}
use Rattle.flute_streams.proofs.Common.{◌∷◌, ◌≡◌, ◌≢◌}
use Rattle.flute_streams.proofs.Common.{◌≤◌}
use Rattle.flute_journal.proofs.Public.{all_split}
use Rattle.flute_journal.proofs.Public.{after, last_of-snoc, Rises-second}
use Rattle.flute_journal.proofs.Public.{Same-crossed, rising-rises}

-- the value of sized facts is sized

sized_conflict : (key : Key) (part : Part) → IsSized (conflict_in key part)
sized_conflict = grind arith

sized_joined : (a : Address) (f : Fact) (o : Option Fact) → IsSized f
    → IfSome (joined a (Some f) o) IsSized
sized_joined a f None v = v
sized_joined a f (Some g) v = elim (cases_Bool _) [
  | inl s ↦ rw (joined-same a f g (fact_same f g s)) v
  | inr s ↦ rw (joined-apart a f g s) (sized_conflict _ _)
]

fact_at-sized : (facts : List Fact) (a : Address) → AllByRecursion IsSized facts
    → IfSome (fact_at facts a) IsSized
fact_at-sized [] a v = rw (fact_at-nil a) tt
fact_at-sized (f ∷ fs) a v = elim (cases_Bool _) [
  | inl e ↦ let p = address_same (address f) a e in rw
      (fact_at-cons f fs a ∙ ap (λ x. joined a x (fact_at fs a)) (alone-at f a p))
      (sized_joined a f _ v.0)
  | inr e ↦ rw (fact_at-elsewhere f fs a e) (fact_at-sized fs a v.1)
]

pub lowest-sized : (facts : List Fact) (g : Fact) → AllByRecursion IsSized facts
    → Lowest facts g → IsSized g
lowest-sized facts g v l =
    subst (λ (o : Option Fact). IfSome o IsSized) l.comes (fact_at-sized _ _ v)

-- The facts that a turn takes.

abbrev pub taken_by : Bool → Fact → List Fact
taken_by true f = f ∷ []
taken_by false f = []

-- those of them at an address
abbrev pub taken_at : Address → List Fact → List Fact
taken_at a [] = []
taken_at a (f ∷ fs) = taken_by (same_address (address f) a) f ++ taken_at a fs

taken_here : (a : Address) (fs : List Fact) → fact_at (taken_at a fs) a ≡ fact_at fs a
taken_here a [] = refl
taken_here a (f ∷ fs) = elim (cases_Bool _) [
  | inl e ↦ ap (λ b. fact_at (taken_by b f ++ taken_at a fs) a) e ∙ fact_at-cons f _ a ∙ ap
      (joined a _) (taken_here a fs) ∙ sym (fact_at-cons f fs a)
  | inr e ↦ ap (λ b. fact_at (taken_by b f ++ taken_at a fs) a) e ∙ taken_here a fs ∙ sym
      (fact_at-elsewhere f fs a e)
]

taken_elsewhere : (a b : Address) (fs : List Fact) → same_address a b ≡ false
    → fact_at (taken_at a fs) b ≡ None
taken_elsewhere a b [] n = fact_at-nil b
taken_elsewhere a b (f ∷ fs) n = elim (cases_Bool _) [
  | inl e ↦ ap (λ t. fact_at (taken_by t f ++ taken_at a fs) b) e ∙ fact_at-elsewhere f _ b
      (rw (address_same (address f) a e) n) ∙ taken_elsewhere a b fs n
  | inr e ↦ ap (λ t. fact_at (taken_by t f ++ taken_at a fs) b) e ∙ taken_elsewhere a b fs n
]

-- their value is the fact that is written
pub taken_same : (fs : List Fact) (g : Fact) → fact_at fs (address g) ≡ Some g
    → Same (taken_at (address g) fs) (g ∷ [])
taken_same fs g h = record {
  each = λ b. elim (cases_Bool _) [
    | inl e ↦ let p = address_same (address g) b e in
        rw (← p) (taken_here _ fs ∙ h ∙ sym (alone-at g _ refl))
    | inr e ↦ taken_elsewhere _ b fs e ∙ sym (alone-elsewhere g b e)
  ];
}

-- and it holds one fact at least
pub taken_some : (fs : List Fact) (g : Fact) → fact_at fs (address g) ≡ Some g
    → 1 ≤ length (taken_at (address g) fs)
taken_some fs g h = some _ refl
  where
    some : (t : List Fact) → taken_at (address g) fs ≡ t → 1 ≤ length t
    some [] e = absurd
        (none-some g (sym (fact_at-nil _)
        ∙ sym (ap (λ l. fact_at l (address g)) e)
        ∙ taken_here _ fs ∙ h))
    some (f ∷ t) e = omega arith

-- A stream that was merged up to some place.

-- a stream as it was and as it is, and what it gave between
pub record Run (S : Type 0) : Type 0 where
  pub start : S
  pub now : S
  pub given : List Fact

abbrev pub starts : {S : Type 0} → List (Run S) → List S
starts [] = []
starts (r ∷ runs) = r.start ∷ starts runs

abbrev pub nows : {S : Type 0} → List (Run S) → List S
nows [] = []
nows (r ∷ runs) = r.now ∷ nows runs

abbrev pub givens : {S : Type 0} → List (Run S) → List (List Fact)
givens [] = []
givens (r ∷ runs) = r.given ∷ givens runs

-- what a stream that holds this gives at an address
abbrev pub taken_from : Address → Option Fact → List Fact
taken_from a None = []
taken_from a (Some f) = taken_by (same_address (address f) a) f

-- and at a place: nothing where that is no address
abbrev pub given_at : Option Address → Option Fact → List Fact
given_at None o = []
given_at (Some a) o = taken_from a o

pub given_here : (p : Option Address) (o : Option Fact) → address_of o ≡ p
    → given_at p o ≡ option_list o
given_here None None e = refl
given_here (Some a) None e = refl
given_here p (Some f) e = search rules

pub given_elsewhere : (p : Option Address) (o : Option Fact) → address_of o ≢ p → given_at p o ≡ []
given_elsewhere None o n = refl
given_elsewhere (Some a) None n = refl
given_elsewhere (Some a) (Some f) n = elim (cases_Bool _) [
  | inl e ↦ absurd (n (ap Some (address_same (address f) a e)))
  | inr e ↦ ap (λ b. taken_by b f) e
]

abbrev pub IsAbove : Option Address → Option Fact → Type 0
IsAbove place o = IfSome o (λ f. IsTrue (is_after place (address f)))

-- what is not before an address, and not there, is above it
pub above_other : (a : Address) (o : Option Fact) → address_of o ≢ Some a
    → AllByRecursion (IsNotBefore a) (option_list o) → IsAbove (Some a) o
above_other a None n h = tt
above_other a (Some f) n h = by_order _ refl
  where
    by_order : (p : Ordering) → address_cmp a (address f) ≡ p
        → IsTrue (is_after (Some a) (address f))
    by_order Less e = after a _ e
    by_order Equal e = absurd (n (ap Some (sym (address_same a (address f) (ap is_eq e)))))
    by_order Greater e = absurd (h.0 e)

-- what follows a fact in a rising list is above its address
above_next : (F : List Fact) (held o : Option Fact) (p : Option Address) → address_of held ≡ p
    → IsRising ((F ++ option_list held) ++ option_list o) → IsAbove p o
above_next F held o None e r = grind arith
above_next F held None (Some a) e r = tt
above_next F None (Some h) (Some a) e r = absurd (let q = e in cc)
above_next F (Some f) (Some h) (Some a) e r =
    let s = Rises-second _ _ (h ∷ []) (rising-rises ((F ++ f ∷ []) ++ h ∷ []) r) in
    subst (λ x. IsTrue (is_after x (address h))) (last_of-snoc None F f ∙ e) s.0

module _ {S : Type 0} (b : Behaviour S) where
  -- a stream that may be advanced
  pub record Ready (r : Run S) : Type 0 where
    pub passes : b.passes r.start r.now r.given
    pub reads : b.reads r.start r.now r.given
    pub reads_held : b.reads r.start r.now (r.given ++ option_list (b.held r.now))
    pub fails : b.fails r.start r.now None
    pub fewer : b.most r.now + length r.given ≤ b.most r.start

  -- one that was advanced, and holds what is above that place
  pub record Went (place : Option Address) (r : Run S) : Type 0 where
    pub gave : Gave b r.start r.now r.given
    pub fewer : b.most r.now + length r.given ≤ b.most r.start
    pub above : IsAbove place (b.held r.now)

  pub ready : (place : Option Address) (r : Run S) → Went place r → Ready r
  ready = search rules

  -- a stream is advanced if it holds that address
  pub went_on : (p : Option Address) (r : Run S) (u : S) → Ready r
      → (address_of (b.held r.now) ≢ p → Went p r) → GoesOnAt b p r.now u
      → Went p (record { start = r.start; now = u; given = r.given ++ given_at p (b.held r.now) })
  went_on =
      grind (arith, given_here, length-append, above_next, given_at, given_elsewhere, append-nil)

  -- what streams will have given
  abbrev pub givens_at : Option Address → List (Run S) → List (List Fact)
  givens_at p [] = []
  givens_at p (r ∷ runs) = (r.given ++ given_at p (b.held r.now)) ∷ givens_at p runs

  -- all that hold that address were advanced
  pub record Turned (p : Option Address) (runs : List (Run S)) (new : List S) : Type 0 where
    pub next : List (Run S)
    pub starts_are : starts next ≡ starts runs
    pub nows_are : nows next ≡ new
    pub givens_are : givens next ≡ givens_at p runs
    pub went : AllByRecursion (Went p) next

  abbrev pub Stays : Option Address → Run S → Type 0
  Stays p r = Ready r × (address_of (b.held r.now) ≢ p → Went p r)

  pub turn : (p : Option Address) (runs : List (Run S)) (new : List S)
      → AllByRecursion (Stays p) runs → GoOnAt b p (nows runs) new → Turned p runs new
  turn p [] [] w h =
      record { next = []; starts_are = refl; nows_are = refl; givens_are = refl; went = tt }
  turn p (r ∷ runs) (u ∷ new) w h =
      let t = turn p runs new w.1 h.1 in
      record {
        next = record { start = r.start; now = u; given = r.given ++ given_at p (b.held _) }
            ∷ t.next;
        starts_are = ap (λ l. r.start ∷ l) t.starts_are;
        nows_are = ap (λ l. u ∷ l) t.nows_are;
        givens_are = ap (λ l. (r.given ++ given_at p (b.held r.now)) ∷ l) t.givens_are;
        went = (went_on p r u w.0.0 w.0.1 h.0, t.went);
      }
  turn p runs new w h = absurd h

  -- before the first turn

  abbrev pub new_runs : List S → List (Run S)
  new_runs [] = []
  new_runs (s ∷ streams) = record { start = s; now = s; given = [] } ∷ new_runs streams

  pub new_starts : (streams : List S) → starts (new_runs streams) ≡ streams
  new_starts [] = refl
  new_starts (s ∷ streams) = ap (λ l. s ∷ l) (new_starts streams)

  pub new_nows : (streams : List S) → nows (new_runs streams) ≡ streams
  new_nows [] = refl
  new_nows (s ∷ streams) = ap (λ l. s ∷ l) (new_nows streams)

  pub new_givens : (streams : List S) → all_of (givens_at None (new_runs streams)) ≡ []
  new_givens [] = refl
  new_givens (s ∷ streams) = new_givens streams

  pub new_stays : (streams : List S) → AreNew b streams
      → AllByRecursion (Stays None) (new_runs streams)
  new_stays [] n = tt
  new_stays (s ∷ streams) n = search (rules, new_stays streams n.1)

  -- in a turn

  pub went_stays : (place : Option Address) (a : Address) (runs : List (Run S))
      → AllByRecursion (Went place) runs → AllByRecursion (IsNotBefore a) (heads b (nows runs))
      → AllByRecursion (Stays (Some a)) runs
  went_stays place a [] w n = tt
  went_stays place a (r ∷ runs) w n =
      let both = all_split _ _ _ n in (
        (
          ready place r w.0,
          λ e. record {
            gave = w.0.gave;
            fewer = w.0.fewer;
            above = above_other a _ e both.0;
          },
        ),
        went_stays place a runs w.1 both.1,
      )

  taken_split : (a : Address) (o : Option Fact) (fs : List Fact)
      → taken_at a (option_list o ++ fs) ≡ taken_from a o ++ taken_at a fs
  taken_split = grind arith

  -- what they give together
  pub given_same : (a : Address) (runs : List (Run S)) → Same (all_of (givens_at (Some a) runs))
      (all_of (givens runs) ++ taken_at a (heads b (nows runs)))
  given_same a [] = Same-itself []
  given_same a (r ∷ runs) =
      let here = taken_from a (b.held r.now) in
      let rest = taken_at a (heads b (nows runs)) in
      rw (taken_split a _ _) (Same-trans _ _ _
      (Same-append _ _ _ _ (Same-itself _) (given_same a runs))
      (Same-crossed r.given here (all_of (givens runs)) rest))

  pub given_length : (a : Address) (runs : List (Run S)) → length (all_of (givens_at (Some a) runs))
      ≡ length (all_of (givens runs)) + length (taken_at a (heads b (nows runs)))
  given_length a [] = refl
  given_length a (r ∷ runs) = grind (arith, taken_split, length-append, given_length a runs)

  fewer_one : (a : Address) (t u : S) → GoesOnAt b (Some a) t u
      → b.most u + length (taken_from a (b.held t)) ≤ b.most t
  fewer_one a t u (inl h) = rw (given_here _ _ h.0) h.1.fewer
  fewer_one a t u (inr h) = rw (given_elsewhere _ _ h.0) (let e = ap b.most h.1 in omega arith)

  -- how many facts they may still hold
  pub fewer_all : (a : Address) (now new : List S) → GoOnAt b (Some a) now new
      → most_of b new + length (taken_at a (heads b now)) ≤ most_of b now
  fewer_all a [] [] h = omega arith
  fewer_all a (t ∷ now) (u ∷ new) h =
      grind (arith, taken_split, fewer_one, length-append, fewer_all a now new h.1)
  fewer_all a now new h = absurd h
