-- What OUT was at each moment of calls, one after another.
use Rattle.std.proofs.Common.{rules, ◌≡◌, ◌≢◌, ◌⊎◌, ◌++◌, ◌+◌, ℕ, List, [], ◌∷◌, refl, sym, ap, ◌∙◌, subst, take, map, zero, suc, true, false, Bool, Result, Ok, Err, OnErr, OnOk, Option, Some, None, IfSome, IsSome, MatchOption, option_map, if◌then◌else◌, inl, inr, arith, Contains}
use Rattle.std.specs.List.{All}
use Rattle.std.proofs.lemmas.List.Elements.{All-weaker, Contains-append_cases, Contains-append_left, Contains-append_right, Contains-push, Contains-push_cases}
use Rattle.flute_calls.specs.Disks.{Disk, WasOneOf, Spares, OnlyTouches, Touches, Confirms, Renames, Syncs, Unlinks}
use Rattle.flute_calls.specs.Moments.{Run, Always, Does, Passes, IsSame}
use Rattle.std.proofs.lemmas.Bool.{false≢true}
use Rattle.flute_output.specs.Entries.{Stored, Leads, Survives, put_in_place}
use Rattle.flute_output.specs.DiskWrites.{Writing, HasOnly, LeavesOthers}
use Rattle.flute_output.proofs.Runs.{either_end, only-touches, only-unlinks}
use Rattle.flute_output.specs.OutMoments.{Moment, Follows, Steady, BecomesAt, replaced, settled}
use Rattle.flute_output.specs.DiskEntries.{LossesAreOfMoments, disk_entries, stored_as, stored_at, stored_unsure, moment_at, disk_moments}
use Rattle.flute_output.proofs.Disks.{map_same, shown, stored_same}

pub contains_cons : {X : Type 0} (x y : X) (xs : List X) → Contains (x ∷ xs) y
    → (y ≡ x) ⊎ Contains xs y
contains_cons x y xs h = elim (Contains-append_cases (x ∷ []) xs y h) [
  | inl a ↦ elim (Contains-push_cases [] x y a) [
    | inl b ↦ let lt = b.1 in absurd (omega arith)
    | inr e ↦ inl (sym e)
  ]
  | inr b ↦ inr b
]

-- moments that came are all like this one
later_moments : (f : Disk → Moment) (now : Moment) (added past : List Disk)
    → All (λ d. f d ≡ now) added → (m : Moment) → Contains (map f (added ++ past)) m
    → Contains (map f past) m ⊎ (m ≡ now)
later_moments f now [] past all m h = inl h
later_moments f now (d ∷ added) past all m h = elim (contains_cons (f d) m _ h) [
  | inl e ↦ inr (e ∙ all 0 d (omega arith))
  | inr b ↦ later_moments f now added past (λ k x lt. all (suc k) x (omega (arith, lt))) m b
]

-- from calls at each of whose moments OUT was the same
steady_always : (out : List ℕ) (P : Disk → Type 0) (a b : Run) → Always P a b
    → ((d : Disk) → P d → moment_at out d ≡ moment_at out a.now)
    → Steady (disk_moments out a) (disk_moments out b)
steady_always out P a b so same = (
  same b.now so.here,
  λ m h.
      later_moments (moment_at out) (moment_at out a.now) so.added a.past
      (All-weaker P _ same _ so.each) m (subst (λ l. Contains (map (moment_at out) l) m) so.past h),
)

-- one call
follows_does : (out : List ℕ) (change : Moment → Moment) (R : Disk → Disk → Type 0) (a b : Run)
    → Does R a b → moment_at out b.now ≡ change (moment_at out a.now)
    → Follows change (disk_moments out a) (disk_moments out b)
follows_does out change R a b does is = (
  is,
  λ m h.
      elim (contains_cons (moment_at out a.now) m _
      (subst (λ l. Contains (map (moment_at out) l) m) does.past h)) [
        | inl e ↦ inr e
        | inr b ↦ inl b
      ],
)

was_taken : (n : ℕ) (l : List (Option ℕ)) (t : Option ℕ) → WasOneOf (take n l) t → WasOneOf l t
was_taken zero l t h = absurd h
was_taken (suc n) [] t h = h
was_taken (suc n) (x ∷ l) t h = elim h [ inl e ↦ inl e | inr r ↦ inr (was_taken n l t r) ]

maps_same : (l : List (Option ℕ)) (f g : ℕ → Stored)
    → ((k : ℕ) → WasOneOf l (Some k) → f k ≡ g k) → map (option_map f) l ≡ map (option_map g) l
maps_same [] f g same = refl
maps_same (None ∷ l) f g same = ap (λ t. None ∷ t) (maps_same l f g (λ k w. same k (inr w)))
maps_same (Some j ∷ l) f g same = ap (λ s. Some s ∷ map (option_map f) l) (same j (inl refl))
    ∙ ap (λ t. Some (g j) ∷ t) (maps_same l f g (λ k w. same k (inr w)))

pub moment_same : (out : List ℕ) (d e : Disk) → Spares d e out
    → moment_at out e ≡ moment_at out d
moment_same out d e s =
    ap (λ o. record { out = o; unsure = stored_unsure e out }) (stored_same out d e s)
    ∙ ap (λ l. record { out = stored_at d out; unsure = l })
    (ap (λ x. map (option_map (λ k. stored_as (e.files k))) (take x.unsure x.before)) s.entry
    ∙ maps_same (take (d.names out).unsure (d.names out).before) _ _
    (λ k w. ap stored_as (s.files k (inr (was_taken _ _ _ w)))))

take_more : (n : ℕ) (t : Option ℕ) (l : List (Option ℕ))
    → take (n + 1) (t ∷ l) ≡ t ∷ take n l
take_more n t l = let is : n + 1 ≡ suc n = search (rules, arith) in ap (λ k. take k (t ∷ l)) is

-- after calls that did nothing, and after one that spares OUT
module _ (out : List ℕ) (a b : Run) where
  pub steady_undone : Passes IsSame IsSame a b → Steady (disk_moments out a) (disk_moments out b)
  steady_undone so =
      steady_always out (IsSame a.now) a b so.always (λ d e. ap (λ x. moment_at out x) e)

  pub steady_does : (R : Disk → Disk → Type 0) → Does R a b → Spares a.now b.now out
      → Steady (disk_moments out a) (disk_moments out b)
  steady_does R does spares =
      follows_does out (λ m. m) R a b does (moment_same out a.now b.now spares)

  pub steady_spared : (P : Disk → Type 0) → Always P a b → ((d : Disk) → P d → Spares a.now d out)
      → Steady (disk_moments out a) (disk_moments out b)
  steady_spared P so spares =
      steady_always out P a b so (λ d p. moment_same out a.now d (spares d p))

  pub sure_does : (is_in : List ℕ → Bool) → is_in out ≡ true → Does (Confirms is_in) a b
      → Follows settled (disk_moments out a) (disk_moments out b)
  sure_does is_in is does = follows_does out settled (Confirms is_in) a b does
      (ap (λ o. record { out = o; unsure = stored_unsure b.now out })
      (ap (λ x. option_map (λ k. stored_as (b.now.files k)) x.leads) (does.made.here out is)
      ∙ map_same (a.now.names out).leads _ _ (λ k _. ap stored_as (does.made.files k)))
      ∙ ap (λ x. record {
        out = stored_at a.now out;
        unsure = map (option_map (λ k. stored_as (b.now.files k))) (take x.unsure x.before);
      })
      (does.made.here out is))

  pub given_does : (beside : List ℕ) (file : Option Stored) → Does (Renames beside out) a b
      → stored_at b.now out ≡ file
      → Follows (replaced file) (disk_moments out a) (disk_moments out b)
  given_does beside file does is = follows_does out (replaced file) (Renames beside out) a b does
      (ap (λ o. record { out = o; unsure = stored_unsure b.now out }) is
      ∙ ap (λ l. record { out = file; unsure = l })
      (ap (λ x. map (option_map (λ k. stored_as (b.now.files k))) (take x.unsure x.before))
      does.made.given
      ∙ ap (λ l. map (option_map (λ k. stored_as (b.now.files k))) l)
      (take_more (a.now.names out).unsure (a.now.names out).leads (a.now.names out).before)
      ∙ ap (λ l. option_map (λ k. stored_as (b.now.files k)) (a.now.names out).leads ∷ l)
      (maps_same (take (a.now.names out).unsure (a.now.names out).before) _ _
      (λ k _. ap stored_as (does.made.files k)))
      ∙ ap (λ o. o ∷ stored_unsure a.now out)
      (map_same (a.now.names out).leads _ _ (λ k _. ap stored_as (does.made.files k)))))

-- moments that contracts see, if they see the calls
pub follows_if : (told : Bool) (change : Moment → Moment) (out named : List ℕ) (a b : Run)
    → named ≡ out → (told ≡ true → Follows change (disk_moments out a) (disk_moments out b))
    → Follows change (if told then disk_moments out a else [])
    (if told then disk_moments named b else [])
follows_if true change out named a b same f =
    subst (λ n. Follows change (disk_moments out a) (disk_moments n b)) (sym same) (f refl)
follows_if false change out named a b same f = refl

-- at both ends of a call, or at one
pub at_both : {T E : Type 0} (r : Result T E) (told : Bool) (P : Type 0)
    → (told ≡ true → OnOk r P) → (told ≡ true → OnErr r P) → told ≡ true → P
at_both (Ok y) told P f h t = f t
at_both (Err y) told P f h t = h t

-- what came after moments at which OUT stayed so
pub steady_then : (change : Moment → Moment) (a b c : List Moment) → Steady a b
    → Follows change b c → Follows change a c
steady_then change [] b c ab bc =
    subst (λ l. Follows change l c → c ≡ []) (sym ab) (λ e. e) bc
steady_then change (now ∷ before) [] c ab bc = absurd ab
steady_then change (now ∷ before) (last ∷ rest) [] ab bc = absurd bc
steady_then change (now ∷ before) (last ∷ rest) (final ∷ tail) ab bc = (
  bc.0 ∙ ap change ab.0,
  λ m h. elim (bc.1 m h) [
    | inl r ↦ ab.1 m r
    | inr e ↦ inr (e ∙ ab.0)
  ],
)

pub steady_becomes : (file : Stored) (a b : List Moment) → Steady a b → BecomesAt file a b
steady_becomes file [] b ab = ab
steady_becomes file (now ∷ before) [] ab = absurd ab
steady_becomes file (now ∷ before) (last ∷ rest) ab = λ m h. elim (contains_cons last m rest h) [
  | inl e ↦ inr (inl (e ∙ ab.0))
  | inr r ↦ elim (ab.1 m r) [ inl x ↦ inl x | inr e ↦ inr (inl e) ]
]

-- OUT was replaced, and after that it stayed so, or the disk had its name as well
pub replaced_becomes : (file : Stored) (change : Moment → Moment) (a b c : List Moment)
    → Follows (replaced (Some file)) a b → Follows change b c
    → ((m : Moment) → (change m ≡ m) ⊎ (change m ≡ settled m)) → BecomesAt file a c
replaced_becomes file change [] b c ab bc either =
    subst (λ l. Follows change l c → c ≡ []) (sym ab) (λ e. e) bc
replaced_becomes file change (now ∷ before) [] c ab bc either = absurd ab
replaced_becomes file change (now ∷ before) (last ∷ rest) [] ab bc either = absurd bc
replaced_becomes file change (now ∷ before) (last ∷ rest) (final ∷ tail) ab bc either =
    λ m h. elim (contains_cons final m tail h) [
      | inl e ↦ elim (either last) [
        | inl same ↦ inr (inr (inl (e ∙ bc.0 ∙ same ∙ ab.0)))
        | inr sure ↦ inr (inr (inr (e ∙ bc.0 ∙ sure ∙ ap settled ab.0)))
      ]
      | inr t ↦ elim (bc.1 m t) [
        | inl r ↦ elim (ab.1 m r) [ inl x ↦ inl x | inr e ↦ inr (inl e) ]
        | inr e ↦ inr (inr (inl (e ∙ ab.0)))
      ]
    ]

-- the calls of an output, each from the run a to the run b
module _ {T E : Type 0} (r : Result T E) (out beside : List ℕ) (is_apart : out ≢ beside) (a b : Run)
  where
    pub steady_beside : Always (OnlyTouches beside a.now) a b
        → Steady (disk_moments out a) (disk_moments out b)
    steady_beside so = steady_spared out a b _ so (λ d only. only.elsewhere out is_apart)

    pub steady_written : (file : Option ℕ) → IfSome file (λ k. HasOnly beside k a.now)
        → Always (LeavesOthers file a.now) a b → Steady (disk_moments out a) (disk_moments out b)
    steady_written None alone so = steady_always out _ a b so (λ d e. ap (moment_at out) e)
    steady_written (Some k) alone so = steady_spared out a b _ so
        (λ d t. (only-touches beside k a.now d alone t).elsewhere out is_apart)

    synced_ok : (file : Option ℕ) → IfSome file (λ k. HasOnly beside k a.now) → IsSome file
        → IfSome file (λ k. Does (Syncs k) a b) → Steady (disk_moments out a) (disk_moments out b)
    synced_ok None alone is_open does = absurd (false≢true is_open)
    synced_ok (Some k) alone is_open does = steady_does out a b (Syncs k) does
        ((only-touches beside k a.now b.now alone does.made.touches).elsewhere out is_apart)

    synced_err : (file : Option ℕ) → IfSome file (λ k. HasOnly beside k a.now)
        → MatchOption file (b ≡ a) (λ k. Passes (Touches k) (Touches k) a b)
        → Steady (disk_moments out a) (disk_moments out b)
    synced_err None alone same =
        subst (λ x. Steady (disk_moments out a) (disk_moments out x)) (sym same) (refl, λ m h. inl h)
    synced_err (Some k) alone so = steady_written (Some k) alone so.always

    pub steady_synced : (file : Option ℕ) → IfSome file (λ k. HasOnly beside k a.now)
        → OnOk r (IsSome file) → OnOk r (IfSome file (λ k. Does (Syncs k) a b))
        → OnErr r (MatchOption file (b ≡ a) (λ k. Passes (Touches k) (Touches k) a b))
        → Steady (disk_moments out a) (disk_moments out b)
    steady_synced file alone is_open ok failed = elim r as (λ s. OnOk s (IsSome file)
        → OnOk s (IfSome file (λ k. Does (Syncs k) a b))
        → OnErr s (MatchOption file (b ≡ a) (λ k. Passes (Touches k) (Touches k) a b))
        → Steady (disk_moments out a) (disk_moments out b)) [
          | Ok y ↦ λ i o f. synced_ok file alone i o
          | Err y ↦ λ i o f. synced_err file alone f
        ] is_open ok failed

    pub steady_removed : OnOk r (Does (Unlinks beside) a b) → OnErr r (Passes IsSame IsSame a b)
        → Steady (disk_moments out a) (disk_moments out b)
    steady_removed ok failed = either_end r _ _ _ ok failed
        (λ does. steady_does out a b (Unlinks beside) does
        ((only-unlinks beside a.now b.now does.made).elsewhere out is_apart))
        (steady_undone out a b)

-- what contracts see of calls that succeed, or fail
module _ (told : Bool) (change : Moment → Moment) (out named : List ℕ) (a b : Run)
    (same : named ≡ out) where
  pub on_ok_follows : {T E : Type 0} (r : Result T E)
      → (told ≡ true → OnOk r (Follows change (disk_moments out a) (disk_moments out b)))
      → OnOk r (Follows change (if told then disk_moments out a else [])
      (if told then disk_moments named b else []))
  on_ok_follows (Ok y) f = follows_if told change out named a b same f
  on_ok_follows (Err y) f = tt

  pub on_err_follows : {T E : Type 0} (r : Result T E)
      → (told ≡ true → OnErr r (Follows change (disk_moments out a) (disk_moments out b)))
      → OnErr r (Follows change (if told then disk_moments out a else [])
      (if told then disk_moments named b else []))
  on_err_follows (Ok y) f = tt
  on_err_follows (Err y) f = follows_if told change out named a b same f

module _ (out : List ℕ) (a b : Run) where
  pub sure_confirmed : {T E F : Type 0} (r : Result T E) (has_name : F → List ℕ → Bool)
      (folder : Option F) → OnOk r (IsSome folder) → IfSome folder (λ f. has_name f out ≡ true)
      → OnOk r (IfSome folder (λ f. Does (Confirms (has_name f)) a b))
      → OnOk r (Follows settled (disk_moments out a) (disk_moments out b))
  sure_confirmed (Ok y) has_name None is_open is does = absurd (false≢true is_open)
  sure_confirmed (Ok y) has_name (Some f) is_open is does = sure_does out a b (has_name f) is does
  sure_confirmed (Err y) has_name folder is_open is does = tt

-- OUT was given the file beside it
module _ (out named beside : List ℕ) (a b : Run) (same : named ≡ out) (file next : Option ℕ)
    (p q : Bool) (w x : Writing) where
  pub put_given : {T E : Type 0} (r : Result T E) (told : Bool) → x.disk ≡ b.now
      → OnOk r (Leads (λ d e. e ≡ put_in_place d) (shown told out file p w)
      (shown told named next q x))
      → (told ≡ true → OnOk r (Does (Renames beside out) a b))
      → OnOk r (Leads (λ old _. Follows (replaced old.beside)
      (if told then disk_moments out a else []) (if told then disk_moments named b else []))
      (shown told out file p w) (shown told named next q x))
  put_given (Err y) told at_b put renames = tt
  put_given (Ok y) false at_b put renames = tt
  put_given (Ok y) true at_b put renames =
      subst (λ n. (disk_entries n next q x ≡ put_in_place (disk_entries out file p w))
      → Follows (replaced (disk_entries out file p w).beside) (disk_moments out a)
      (disk_moments n b)) (sym same) (λ is. given_does out a b beside _ (renames refl)
      (ap (λ d. stored_at d out) (sym at_b) ∙ ap (λ e. e.out) is)) put

was_contained : (l : List (Option ℕ)) (t : Option ℕ) (f : ℕ → Stored) → WasOneOf l t
    → Contains (map (option_map f) l) (option_map f t)
was_contained [] t f h = absurd h
was_contained (x ∷ l) t f h = elim h [
  | inl e ↦ subst (λ y. Contains (map (option_map f) (x ∷ l)) (option_map f y)) (sym e)
      (Contains-append_left (option_map f x ∷ []) (map (option_map f) l) (option_map f x)
      (Contains-push [] (option_map f x)))
  | inr r ↦ Contains-append_right (option_map f x ∷ []) (map (option_map f) l) (option_map f t)
      (was_contained l t f r)
]

pub losses : LossesAreOfMoments
losses d out None h = elim h [
  | inl e ↦ inl (subst (λ o. Survives (option_map (λ k. stored_as (d.files k)) o) None) e refl)
  | inr w ↦ inr (None, was_contained _ None (λ k. stored_as (d.files k)) w, refl)
]
losses d out (Some bytes) h = elim h.1 [
  | inl e ↦ inl (subst (λ o. Survives (option_map (λ k. stored_as (d.files k)) o) (Some bytes)) e
      (λ t. ap Some (h.2 t)))
  | inr w ↦ inr (
    Some (stored_as (d.files h.0)),
    was_contained _ (Some h.0) (λ k. stored_as (d.files k)) w,
    λ t. ap Some (h.2 t),
  )
]
