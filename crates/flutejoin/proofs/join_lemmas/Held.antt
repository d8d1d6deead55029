-- HeldFiles: the store holds just the facts of the datagrams that were read (specs/JoinParts).
use Rattle.std.proofs.Common.{rules}
use Rattle.std.proofs.Common.{◌≡◌, ℕ, ◌+◌, Bool, true, false, cond, List, [], ◌∷◌, ◌++◌}
use Rattle.std.proofs.Common.{Result, Ok, Err, inl, inr, refl, sym, ap, subst, ◌∙◌, arith}
use Rattle.std.proofs.Common.{append-nil, append_assoc}
use Rattle.std.specs.Prelude.{Option, Some, MatchResult}
use Rattle.flute_journal.specs.declared.fault.ReadFault.{ReadFault}
use Rattle.flute_journal.specs.Input.{FailsIf}
use Rattle.std.specs.List.{flat_map}
use Rattle.std.proofs.lemmas.Bool.{false≢true}
use Rattle.std.proofs.lemmas.List.{length-append}
use Rattle.std.proofs.lemmas.List.Sums.{sum_by_push}
use Rattle.std.proofs.lemmas.Grind.{flat_map-append}
use Rattle.flute_parts.specs.declared.fact.Fact.{Fact}
use Rattle.flute_parts.specs.Facts.{Same}
use Rattle.flute_parts.proofs.Public.{Below-from_Same, Over-below, Same-append, Same-itself}
use Rattle.flute_parts.proofs.Public.{Same-swap, Same-trans}
use Rattle.flutejoin.specs.declared.command_fault.CommandFault.{CommandFault}
use Rattle.flutejoin.specs.declared.command_fault.CommandFault.TheVariants.{Full, Input}
use Rattle.flutejoin.specs.Asides.{AreHeld, AreRunsOf, HoldTogether}
use Rattle.flutejoin.specs.declared.join.held_files.HeldFiles.{HeldFiles}
use Rattle.flutejoin.specs.Joined.{Choice, facts_by, is_of_others}
use Rattle.flutejoin.specs.JoinParts.{CountsReason, TakesDatagram, HoldsFacts}
use Rattle.flutejoin.specs.JoinParts.{StoreFails, HoldsAll, HoldsDatagrams, HoldsMore}
use Rattle.flutejoin.specs.Refused.{is_refused}
use Rattle.flutejoin.specs.Limits.{Limits, IsOver}
use Rattle.flutejoin.proofs.join_lemmas.Reasons.{reasons_more}
use Rattle.flutejoin.proofs.join_lemmas.Receptions.{Below-left}

store_over : (most : Limits) (F : List Fact) (fault : CommandFault) → StoreFails most F fault
    → fault ≡ Full → IsOver most F
store_over _ F _ (inl full) is = full.1
store_over most F fault (inr memory) is = let e = sym memory ∙ is in absurd cc

-- the datagram is of a session that is not taken: nothing of it is held, and it is not refused
pub record IsPassed (choice : Choice) (d : List ℕ) : Type 0 where
  pub none : facts_by choice d ≡ []
  pub kept : is_refused d ≡ false
  pub other : is_of_others choice d ≡ true

-- nothing but what does not count was changed
pub record IsUnchanged {R : Type 0} {s o y : ℕ} (old new : HeldFiles s o y R) : Type 0 where
  pub told : new.told ≡ old.told
  pub fits : new.fits ≡ old.fits
  pub reasons : new.reasons ≡ old.reasons
  pub others : new.others ≡ old.others
  pub runs : new.runs ≡ old.runs

-- the last of three in the middle
turn : (F G H : List Fact) → Same ((F ++ G) ++ H) ((F ++ H) ++ G)
turn F G H = rw (append_assoc F G H) (subst (λ l. Same (F ++ (G ++ H)) l)
    (sym (append_assoc F H G)) (Same-append F F _ _ (Same-itself F) (Same-swap G H)))

-- the choice of all datagrams
module _ {R : Type 0} (unread : R → Option (List ℕ)) (buffered : R → List ℕ) (choice : Choice) where
  flat_more : (ds : List (List ℕ)) (d : List ℕ) → flat_map (facts_by choice) (ds ++ d ∷ []) ≡
      flat_map (facts_by choice) ds ++ facts_by choice d
  flat_more ds d = search (rules, flat_map-append, facts_by)

  -- a datagram more was taken into the store
  takes_more : {s o y : ℕ} (old new : HeldFiles s o y R) (ds : List (List ℕ)) (d : List ℕ) →
      HoldsFacts unread buffered choice old ds → new.runs ≡ old.runs → TakesDatagram
      (facts_by choice d) old d new → HoldsFacts unread buffered choice new (ds ++ d ∷ [])
  takes_more old new ds d all same one =
      let length_is = length-append ds (d ∷ []) in
      let fresh = facts_by choice d in
      let store = old.told.store in
      let files = flat_map (facts_by choice) ds in
      record {
        aside = all.aside;
        runs = rw same all.runs;
        content =
            rw (flat_more _ d) (Same-trans _ _
            _
            (Same-append _ _ _ _ one.content
            (Same-itself _))
            (Same-trans _ _
            _ (turn store fresh all.aside)
            (Same-append _ _ _ _ all.content
            (Same-itself _))));
        count = omega arith;
        refused =
            rw (sum_by_push _ _ d, one.refused)
            (counted _ _ _ all.refused);
        reasons = reasons_more _ _ _ d all.reasons one.reasons;
      }
    where
      counted : (m k : ℕ) (b : Bool) → m ≡ k → cond b (m + 1) m ≡ k + cond b 1 0
      counted m k true e = omega arith
      counted m k false e = omega arith

  -- facts over the limits are so with one datagram more
  over_more : (ds : List (List ℕ)) (d : List ℕ) → IsOver choice.most (flat_map (facts_by choice) ds)
      → IsOver choice.most (flat_map (facts_by choice) (ds ++ d ∷ []))
  over_more ds d over = search (rules, flat_more, Over-below, facts_by, Below-left)

  -- if the store has no room for a datagram, all facts are over the limits
  over_with : {s o y : ℕ} (held : HeldFiles s o y R) (ds : List (List ℕ)) (d : List ℕ) → HoldsFacts
      unread buffered choice held ds → IsOver choice.most (held.told.store ++ facts_by choice d) →
      IsOver choice.most (flat_map (facts_by choice) (ds ++ d ∷ []))
  over_with held ds d all over =
      let fresh = facts_by choice d in
      let store = held.told.store in
      let files = flat_map (facts_by choice) ds in
      let more = (store ++ fresh) ++ all.aside in
      let same = Same-trans _ _ _ (turn store fresh all.aside)
      (Same-append _ _ _ _ all.content (Same-itself _)) in
      let all_over = Over-below _ _ _ _ _ (Below-left (store ++ fresh) all.aside) over in
      rw (flat_more _ d) (Over-below _ _ _ _ _ (Below-from_Same _ _ same) all_over)

  -- the same for an equal flag `fits`
  holding : {s o y : ℕ} (b c : Bool) (held : HeldFiles s o y R) (ds : List (List ℕ)) → b ≡ c
      → HoldsAll unread buffered choice c held ds → HoldsAll unread buffered choice b held ds
  holding b c held ds e h = search rules

  held_as : {s o y : ℕ} (b c : Bool) (held : HeldFiles s o y R) (ds : List (List ℕ)) → b ≡ c →
      HoldsAll unread buffered choice b held ds → HoldsAll unread buffered choice c held ds
  held_as b c held ds e h = search rules

module _ {R : Type 0} {unread : R → Option (List ℕ)} {buffered : R → List ℕ} {choice : Choice} where
  -- all facts are held if they fit, and else they are over the limits
  module _ {s o y : ℕ} {held : HeldFiles s o y R} {ds : List (List ℕ)}
      (h : HoldsDatagrams unread buffered choice held ds) where
    pub all_held : held.fits ≡ true → HoldsFacts unread buffered choice held ds
    all_held fits = search rules

    pub all_over : held.fits ≡ false → IsOver choice.most (flat_map (facts_by choice) ds)
    all_over over = held_as unread buffered choice _ _ held _ over h.holds

  -- a datagram more was taken
  pub holds_more : {s o y : ℕ} {old new : HeldFiles s o y R} {ds : List (List ℕ)} {d : List ℕ} →
      old.fits ≡ true → new.fits ≡ true → new.runs ≡ old.runs → TakesDatagram (facts_by choice d)
      old d new → new.others ≡ old.others + cond (is_of_others choice d) 1 0 → HoldsDatagrams unread
      buffered choice old ds → HoldsDatagrams unread buffered choice new (ds ++ d ∷ [])
  holds_more {old} {new} {ds} {d} fits still same one count h = search
      (rules, sum_by_push, holding, takes_more, all_held)

  -- it found no room
  pub holds_over : {s o y : ℕ} {old new : HeldFiles s o y R} {ds : List (List ℕ)} (d : List ℕ)
      {told : List Fact} {fault : CommandFault} → old.fits ≡ true → new.fits ≡ false
      → facts_by choice d ≡ told → StoreFails choice.most (old.told.store ++ told) fault
      → fault ≡ Full → HoldsDatagrams unread buffered choice old ds
      → HoldsDatagrams unread buffered choice new (ds ++ d ∷ [])
  holds_over {old} {new} {ds} d {fault} fits over e fails full h = record {
    others = λ fitting. absurd (false≢true (cc));
    holds = holding unread buffered choice _ _ new _ over
        (over_with _ _ _ _ _ d (all_held h fits) (rw e (store_over _ _ _ fails full)));
  }

  -- there had been none before
  pub holds_past : {s o y : ℕ} {file : HeldFiles s o y R} {ds : List (List ℕ)} (d : List ℕ)
      → file.fits ≡ false → HoldsDatagrams unread buffered choice file ds
      → HoldsDatagrams unread buffered choice file (ds ++ d ∷ [])
  holds_past {file} {ds} d fits h = record {
    others = λ fitting. absurd (false≢true (cc));
    holds = holding unread buffered choice _ _ file _ fits
        (over_more unread buffered choice _ d (all_over h fits));
  }

  -- a datagram of another session was counted
  pub holds_passed : {s o y : ℕ} {old new : HeldFiles s o y R} {ds : List (List ℕ)} {d : List ℕ} →
      old.fits ≡ true → new.fits ≡ true → new.runs ≡ old.runs → IsPassed choice d → CountsReason
      old.reasons d new.reasons → new.told ≡ record {
        store = old.told.store;
        datagrams = old.told.datagrams + 1;
        refused = old.told.refused;
      } → new.others ≡ old.others + 1 → HoldsDatagrams unread buffered choice old ds →
      HoldsDatagrams unread buffered choice new (ds ++ d ∷ [])
  holds_passed {old} fits still same passed reasons is count h = holds_more fits still same (record {
    content = search rules;
    datagrams = cc;
    refused = rw passed.kept (ap (λ t. t.refused) is);
    reasons = reasons;
  }) (rw passed.other count) h

  -- it was taken
  pub holds_taken : {s o y : ℕ} {old new : HeldFiles s o y R} {ds : List (List ℕ)} {d : List ℕ}
      {told : List Fact} → old.fits ≡ true → new.fits ≡ true → new.runs ≡ old.runs → facts_by choice
      d ≡ told → new.others ≡ old.others → is_of_others choice d ≡ false → TakesDatagram told
      old d new → HoldsDatagrams unread buffered choice old ds → HoldsDatagrams unread
      buffered choice new (ds ++ d ∷ [])
  holds_taken {old} {new} {d} fits still runs e same own taken h = holds_more fits still runs
      (rw e taken) (rw own (omega arith)) h

  -- the store was put aside
  pub holds_aside : {s o y : ℕ} {old new : HeldFiles s o y R} → old.fits ≡ true → new.fits ≡ true →
      new.told.store ≡ [] → new.told.datagrams ≡ old.told.datagrams → new.told.refused ≡
      old.told.refused → new.reasons ≡ old.reasons → new.others ≡ old.others
      → ((facts : List Fact) → AreRunsOf unread buffered old.runs.items facts → HoldTogether unread buffered
      new.runs.items (facts ++ old.told.store)) → HoldsMore unread buffered choice old new []
  holds_aside {old = old} {new = new} fits still empty datagrams refused reasons others runs ds h =
      let all = all_held h fits in
      let files = flat_map (facts_by choice) ds in
      let more = runs all.aside all.runs in
      rw (append-nil ds) (record {
        others = λ e. others ∙ h.others fits;
        holds = holding unread buffered choice new.fits true new ds still (record {
          aside = more.0;
          runs = more.1;
          content =
              rw empty
              (Same-trans more.0 (all.aside ++ old.told.store) files more.2
              (Same-trans (all.aside ++ old.told.store) (old.told.store ++ all.aside) files
              (Same-swap all.aside old.told.store) all.content));
          count = datagrams ∙ all.count;
          refused = refused ∙ all.refused;
          reasons = rw reasons all.reasons;
        });
      })

  -- so the store and the runs have these facts
  pub held_together : {s o y : ℕ} {held : HeldFiles s o y R} {ds : List (List ℕ)} → held.fits ≡ true
      → HoldsDatagrams unread buffered choice held ds → (facts : List Fact)
      × AreHeld unread buffered held.told.store held.runs.items facts
      × Same facts (flat_map (facts_by choice) ds)
  held_together {held = held} fits h =
      let all = all_held h fits in
      (held.told.store ++ all.aside, (all.aside, all.runs, refl), all.content)

  pub holds_still : {s o y : ℕ} {old new : HeldFiles s o y R} → IsUnchanged old new
      → (ds : List (List ℕ)) → HoldsDatagrams unread buffered choice old ds
      → HoldsDatagrams unread buffered choice new ds
  holds_still {old} {new} same ds h = search rules

  -- so it was before something was done
  pub holds_after : {s o y : ℕ} {first old new : HeldFiles s o y R} → IsUnchanged first old
      → HoldsMore unread buffered choice old new [] → HoldsMore unread buffered choice first new []
  holds_after same h = search rules

-- A record that was read as the input with this number.

pub read_some : (n : ℕ) (r : Result (Option (List ℕ)) ReadFault)
    (s : Result (Option (List ℕ)) CommandFault) (d : List ℕ) → MatchResult r (λ x. s ≡ Ok x)
    (λ f. s ≡ Err (Input n f)) → s ≡ Ok (Some d) → r ≡ Ok (Some d)
read_some = search rules

-- its fault
pub record ReadErr (n : ℕ) (r : Result (Option (List ℕ)) ReadFault) (fault : CommandFault)
    : Type 0
  where
    pub why : ReadFault
    pub was : r ≡ Err why
    pub is : fault ≡ Input n why

pub read_err : (n : ℕ) (r : Result (Option (List ℕ)) ReadFault)
    (s : Result (Option (List ℕ)) CommandFault) (fault : CommandFault) → MatchResult r
    (λ x. s ≡ Ok x) (λ f. s ≡ Err (Input n f)) → s ≡ Err fault → ReadErr n r fault
read_err = search rules

-- no failure is counted where a record was read
pub none_failed : (b : Bool) (m k : ℕ) (r : Result (Option (List ℕ)) ReadFault)
    (x : Option (List ℕ)) → r ≡ Ok x → FailsIf {T = Option (List ℕ)} b m k r → k ≡ m
none_failed = search rules
