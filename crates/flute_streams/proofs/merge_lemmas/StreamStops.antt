-- A merge that stops: what was read of each stream, and what was appended.
use Rattle.std.proofs.Common.{rules}
use Rattle.flute_streams.proofs.Common.{Address, AllByRecursion, Appends, AppendsPartOf, Behaviour}
use Rattle.flute_streams.proofs.Common.{Collects, Continues, Each, EachSince, Fact, GaveBefore}
use Rattle.flute_streams.proofs.Common.{GoesOnAt, IsFact, IsNotBefore, List, LoadFault, None}
use Rattle.flute_streams.proofs.Common.{NoneFails, OneFails, Option, Same, Same-sym, Same-trans}
use Rattle.flute_streams.proofs.Common.{Some, StopAt, [], address, address_itself, address_same}
use Rattle.flute_streams.proofs.Common.{all_of, ap, append-nil, append_assoc, arith, cases_Bool}
use Rattle.flute_streams.proofs.Common.{end, entry, fact_at, fact_at-append, false, flat_map}
use Rattle.flute_streams.proofs.Common.{without_end, header, heads, inl, inr, is_after, joined}
use Rattle.flute_streams.proofs.Common.{length, length-append, option_list, address_of, refl}
use Rattle.flute_streams.proofs.Common.{rising_unique, same_address, slice_get, spelling}
use Rattle.flute_streams.proofs.Common.{subst, suc, sym, zero, ℕ, ◌++◌, ◌∙◌, ◌∷◌}
use Rattle.flute_streams.proofs.Common.{◌≡◌, ◌≢◌}
use Rattle.flute_journal.proofs.Public.{all_split}
use Rattle.flute_journal.proofs.Public.{without_end-append, no_end, no_whole_end}
use Rattle.flute_journal.proofs.Public.{rising-none, rising-prefix, last_of-snoc}
use Rattle.flute_journal.proofs.Public.{Rises-second, fact_at-second_none, Rises}
use Rattle.flute_journal.proofs.Public.{rising-rises}
use Rattle.flute_streams.proofs.merge_lemmas.StreamTurns.{Run, starts, nows, givens, given_at}
use Rattle.flute_streams.proofs.merge_lemmas.StreamTurns.{taken_by, given_here, givens_at, IsAbove}
use Rattle.flute_streams.proofs.merge_lemmas.StreamTurns.{above_other, Ready, Went, Stays, went_on}

module _ {S : Type 0} (b : Behaviour S) where
  -- What was read of each stream.

  pub reads_now : (p : Option Address) (runs : List (Run S)) → AllByRecursion (Stays b p) runs
      → EachSince b.reads (starts runs) (nows runs) (givens runs)
  reads_now p [] w = tt
  reads_now p (r ∷ runs) w = (w.0.0.reads, reads_now p runs w.1)

  pub none_fails : (p : Option Address) (runs : List (Run S)) → AllByRecursion (Stays b p) runs
      → NoneFails b (starts runs) (nows runs)
  none_fails p [] w = tt
  none_fails p (r ∷ runs) w = (w.0.0.fails, none_fails p runs w.1)

  -- of a stream that was not advanced
  stands : (p : Option Address) (r : Run S) → Ready b r
      → b.reads r.start r.now (r.given ++ given_at p (b.held r.now))
  stands p r w = by_given p (b.held r.now) w.reads_held
    where
      none : (l : List Fact) → l ≡ [] → b.reads r.start r.now (r.given ++ l)
      none l e = rw (e, append-nil r.given) w.reads

      by_given : (p : Option Address) (o : Option Fact)
          → b.reads r.start r.now (r.given ++ option_list o)
          → b.reads r.start r.now (r.given ++ given_at p o)
      by_given None o h = none [] refl
      by_given (Some a) None h = h
      by_given (Some a) (Some f) h = elim (cases_Bool (same_address (address f) a)) [
        | inl e ↦ rw e h
        | inr e ↦ none _ (ap (λ t. taken_by t f) e)
      ]

  all_stand : (p : Option Address) (runs : List (Run S)) (new : List S) → new ≡ nows runs →
      AllByRecursion (Stays b p) runs → EachSince b.reads (starts runs) new (givens_at b p runs)
  all_stand p runs new e w =
      rw e (stand runs w)
    where
      stand : (runs : List (Run S)) → AllByRecursion (Stays b p) runs
          → EachSince b.reads (starts runs) (nows runs) (givens_at b p runs)
      stand [] w = tt
      stand (r ∷ runs) w = (stands p r w.0.0, stand runs w.1)

  -- what is known of a stream that was passed, and of one that stopped
  record Passed (p : Option Address) (r : Run S) (u : S) : Type 0 where
    pub reads : b.reads r.start u (r.given ++ given_at p (b.held r.now))
    pub fails : b.fails r.start u None

  passed : (p : Option Address) (r : Run S) (u : S) → Ready b r → GoesOnAt b p r.now u
      → Passed p r u
  passed p r u w goes = grind (arith, given_here, stands)

  pub record StoppedAll (p : Option Address) (k : ℕ) (f : LoadFault) (runs : List (Run S))
      (new : List S) : Type 0 where
    pub reads : EachSince b.reads (starts runs) new (givens_at b p runs)
    pub fails : OneFails b k f (starts runs) new
    pub names : (s : S) × (slice_get (starts runs) k ≡ Some s) × b.stops s f
    pub before : GaveBefore b k (starts runs) new

  pub stopped_all : (p : Option Address) (k : ℕ) (f : LoadFault) (runs : List (Run S))
      (new : List S) → AllByRecursion (Stays b p) runs → StopAt b p k f (nows runs) new
      → StoppedAll p k f runs new
  stopped_all p zero f (r ∷ runs) (u ∷ new) w h =
      grind (arith, given_here, all_stand, starts, none_fails)
  stopped_all p (suc k) f (r ∷ runs) (u ∷ new) w h =
      let t = stopped_all p k f runs new w.1 h.1 in
      let q = passed p r u w.0.0 h.0 in
      let g = went_on b p r u w.0.0 w.0.1 h.0 in
      record {
        reads = (q.reads, t.reads);
        fails = (q.fails, t.fails);
        names = t.names;
        before = search rules;
      }
  stopped_all p k f runs new w h = absurd h

  -- What was appended: a proper prefix of the journal of all facts.

  -- all the facts of a stream are those that it gave at a place, and others above that
  record Above (p : Option Address) (K F : List Fact) : Type 0 where
    pub rest : List Fact
    pub is : K ≡ F ++ rest
    pub rises : Rises p rest

  behind : (F K : List Fact) (f : Fact) (c : Continues K (F ++ f ∷ []) (Some f))
      → Rises (Some (address f)) c.rest
  behind F K f c = rw (← last_of-snoc None F f)
      (Rises-second None (F ++ f ∷ []) c.rest (rw (← c.is) (rising-rises K c.rising)))

  apart : (f : Fact) (a : Address) → same_address (address f) a ≡ false
      → Some (address f) ≡ Some a → ⊥
  apart f a e q = absurd (let t = address_itself (address f) in cc)

  above_held : (a : Address) (F K : List Fact) (held : Option Fact) → Continues K
      (F ++ option_list held) held → (address_of held ≢ Some a → IsAbove (Some a) held) → Above
      (Some a) K (F ++ given_at (Some a) held)
  above_held a F K None c n = record { rest = c.rest; is = c.is; rises = rw (c.ended refl) tt }
  above_held a F K (Some f) c n = elim (cases_Bool (same_address (address f) a)) [
    | inl e ↦ rw e (record {
      rest = c.rest;
      is = c.is;
      rises = rw (← address_same (address f) a e) (behind F K f c);
    })
    | inr e ↦ rw e (record {
      rest = f ∷ c.rest;
      is = c.is ∙ append_assoc F (f ∷ []) c.rest ∙ ap (λ l. l ++ f ∷ c.rest)
          (sym (append-nil F));
      rises = (n (apart f a e), behind F K f c);
    })
  ]

  -- streams that went on to a place hold nothing before an address
  pub record HoldFrom (place : Option Address) (a : Address) (runs : List (Run S)) : Type 0 where
    pub went : AllByRecursion (Went b place) runs
    pub none_before : AllByRecursion (IsNotBefore a) (heads b (nows runs))

  -- up to an address, all facts have the values of those that were given there
  known_at : {place : Option Address} {a : Address} (z : Address) (runs : List (Run S))
      (known : List (List Fact)) → HoldFrom place a runs
      → is_after (Some a) z ≡ false → Each b.knows (starts runs) known
      → fact_at (all_of known) z ≡ fact_at (all_of (givens_at b (Some a) runs)) z
  known_at z [] [] from h k = refl
  known_at {place} {a} z (r ∷ runs) (K ∷ known) from h k =
      let w = from.went in
      let both = all_split (IsNotBefore a) (option_list (b.held r.now)) (heads b (nows runs))
      from.none_before in
      let rest : HoldFrom place a runs = record { went = w.1; none_before = both.1 } in
      let F = r.given ++ given_at (Some a) (b.held r.now) in
      let c = above_held a r.given K (b.held r.now) (w.0.gave.known K k.0)
      (λ e. above_other a (b.held r.now) e both.0) in fact_at-append K (all_of known) z ∙ ap
      (λ l. joined z (fact_at l z) (fact_at (all_of known) z)) c.is ∙ ap
      (λ x. joined z x (fact_at (all_of known) z))
      (fact_at-second_none F c.rest z (rising-none (Some a) c.rest z c.rises h)) ∙ ap
      (joined z (fact_at F z)) (known_at z runs known rest h k.1) ∙ sym
      (fact_at-append F (all_of (givens_at b (Some a) runs)) z)
  known_at z runs known from h k = absurd k

  -- and all of them, once nothing is held
  only : (F K : List Fact) (held : Option Fact) → held ≡ None
      → Continues K (F ++ option_list held) held → K ≡ F
  only F K held e c = grind (arith, append-nil)

  none_held : (o : Option Fact) (fs : List Fact) → option_list o ++ fs ≡ [] → (o ≡ None) × (fs ≡ [])
  none_held = grind arith

  known_whole : (place : Option Address) (runs : List (Run S)) (known : List (List Fact)) →
      AllByRecursion (Went b place) runs → heads b (nows runs) ≡ [] → Each b.knows (starts runs)
      known → all_of known ≡ all_of (givens runs)
  known_whole place [] [] w e k = refl
  known_whole place (r ∷ runs) (K ∷ known) w e k =
      let n = none_held _ _ e in
      ap (λ l. l ++ all_of known) (only _ K (b.held r.now) n.0 (w.0.gave.known K k.0)) ∙ ap
      (λ l. r.given ++ l) (known_whole place runs known w.1 n.1 k.1)
  known_whole place runs known w e k = absurd k

  -- each stream contains just what it gave, once none holds a fact
  pub told_whole : (place : Option Address) (runs : List (Run S)) → AllByRecursion (Went b place)
      runs → heads b (nows runs) ≡ [] → Each b.tells (starts runs) (givens runs)
  told_whole place [] w e = tt
  told_whole place (r ∷ runs) w e =
      let n = none_held _ _ e in
      (w.0.gave.ended n.0, told_whole place runs w.1 n.1)

  -- and each ended after what it gave
  pub ended_whole : (place : Option Address) (runs : List (Run S)) → AllByRecursion (Went b place)
      runs → heads b (nows runs) ≡ [] → EachSince b.ends (starts runs) (nows runs) (givens runs)
  ended_whole place [] w e = tt
  ended_whole place (r ∷ runs) w e =
      let n = none_held _ _ e in
      (w.0.gave.ends n.0, ended_whole place runs w.1 n.1)

  rest_some : (x y : List ℕ) (n : ℕ) → x ++ (y ++ end n) ≡ [] → ⊥
  rest_some x y n e =
      let l = ap length e in
      absurd (omega (arith, l, length-append x (y ++ end n), length-append y (end n)))

  goes_on : (M rest : List Fact) (bs more : List ℕ) (n : ℕ) → bs ++ more ≡ without_end M
      → bs ++ (more ++ (flat_map entry rest ++ end n)) ≡ without_end (M ++ rest) ++ end n
  goes_on M rest bs more n e = cc
      (append_assoc bs _ _, e, append_assoc _ _ _, without_end-append M _)

  -- a part of the header and of entries that begin those of all facts
  short : {inputs : List S} {w w' : Option (List ℕ)} (bs more : List ℕ) (M : List Fact) →
      AllByRecursion IsFact M → Appends w w' bs → bs ++ more ≡ without_end M → ((known : List
      (List Fact)) → Each b.knows inputs known → (E : List Fact) → Collects (all_of known) E →
      (rest : List Fact) × (E ≡ M ++ rest)) → AppendsPartOf b inputs w w'
  short bs more M v a e h = record {
    bytes = bs;
    appended = a;
    no_journal = no_end M bs _ v e;
    prefix = λ known k whole j. let p = h _ k j.0 j.1 in (
      more ++
          (flat_map entry p.0 ++ end (length j.0)),
      rest_some _ _ _,
      goes_on M _ bs _ _ e ∙ ap
          (λ z. without_end z ++ end (length j.0)) (sym p.1) ∙ sym j.3,
    );
  }

  pub short_header : {inputs : List S} {w w' : Option (List ℕ)} (bs more : List ℕ)
      → Appends w w' bs → bs ++ more ≡ header → AppendsPartOf b inputs w w'
  short_header bs more a e = short bs _ [] tt a e (λ known k E c. (E, refl))

  pub short_entry : {place : Option Address} {runs : List (Run S)} (M : List Fact) (g : Fact)
      {w w' : Option (List ℕ)} (bs more : List ℕ) → HoldFrom place (address g) runs → Collects
      (all_of (givens_at b (Some (address g)) runs)) (M ++ g ∷ []) → Appends w w' bs → bs ++ more ≡
      without_end (M ++ g ∷ []) → AppendsPartOf b (starts runs) w w'
  short_entry {runs} M g bs more from c a e = short bs _ _ c.valid a e (λ
      known k E d. rising-prefix None (M ++ g ∷ []) E (rising-rises (M ++ g ∷ []) c.rising)
      (rising-rises E d.rising) (λ z h. sym (c.same.each z) ∙ sym
      (known_at z runs known from (subst (λ x. is_after x z ≡ false) (last_of-snoc None M g) h) k) ∙
      d.same.each z))

  -- streams that went on to a place hold nothing
  pub record HoldNone (place : Option Address) (runs : List (Run S)) : Type 0 where
    pub went : AllByRecursion (Went b place) runs
    pub none : heads b (nows runs) ≡ []

  pub short_end : {place : Option Address} {runs : List (Run S)} {M : List Fact}
      {w w' : Option (List ℕ)} (bs : List ℕ) {more : List ℕ} → HoldNone place runs
      → Collects (all_of (givens runs)) M → Appends w w' bs → more ≢ []
      → bs ++ more ≡ spelling M → AppendsPartOf b (starts runs) w w'
  short_end {place} {runs} {M} bs {more} all c a s e = record {
    bytes = bs;
    appended = a;
    no_journal = no_whole_end M bs more c.valid s e;
    prefix = λ known k whole j. let given = all_of (givens runs) in
        let same = subst (λ l. Same l j.0)
        (known_whole place runs known all.went all.none k) j.1.same in
        let one = rising_unique M j.0 c.rising j.1.rising
        (Same-trans M given j.0 (Same-sym given M c.same) same) in
        (more, s, e ∙ ap spelling one ∙ sym j.3);
  }
