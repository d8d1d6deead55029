-- Filled: how the facts and the lines go on (specs/FillStreams).
use Rattle.std.proofs.Common.{◌≡◌, ◌≢◌, ℕ, ◌<◌, Bool, true, false, List, [], ◌∷◌, ◌++◌}
use Rattle.std.proofs.Common.{Option, Some, None, refl, sym, ap, ◌∙◌, subst, inl, inr, cond, length}
use Rattle.std.proofs.Common.{append-nil, append_assoc, arith, if◌then◌else◌}
use Rattle.std.proofs.lemmas.Bool.{cases_Bool, false≢true}
use Rattle.std.proofs.lemmas.Option.{none-some}
use Rattle.std.proofs.lemmas.List.Elements.{filter-append}
use Rattle.std.specs.Prelude.{filter}
use Rattle.flute_parts.specs.Addresses.{address}
use Rattle.flute_parts.specs.Facts.{IsRising, StandAfter}
use Rattle.flute_parts.specs.declared.address.Address.{Address}
use Rattle.flute_parts.specs.declared.fact.Fact.{Fact}
use Rattle.flute_streams.specs.Streams.{Behaviour, GoesOn, address_of, option_list}
use Rattle.flutejoin.specs.FillLists.{AreInOrder, asked, asks, last_of}
use Rattle.flutejoin.specs.FillStreams.{Between, HasReached, Knows, Moves, Passed}
use Rattle.flutejoin.specs.FillStreams.{Stands, Walks, filled_behaviour}
use Rattle.flutejoin.specs.FillStreams.{is_behind, line_of, lines_left}
use Rattle.flutejoin.specs.FillStreams.{turn_in, turn_of}
use Rattle.flutejoin.specs.declared.fill.asking.Asking.{Asking}
use Rattle.flutejoin.specs.declared.fill.filled.Filled.{Filled}
use Rattle.flutejoin.specs.declared.fill.filled.Turn.TheVariants.{Stay, Facts, Lines}
use Rattle.flutejoin.specs.declared.fill.gap_list.GapList.{GapList}
use Rattle.flutejoin.specs.declared.fill.gap_list.LastLine.{LastLine}
use Rattle.flutejoin.specs.declared.fill.gap_list.LastLine.TheVariants.{Unread, Ended}
use Rattle.flutejoin.specs.declared.fill.gap_list.LastLine.TheVariants.{Line as Held}
use Rattle.flutejoin.specs.declared.fill.gap_list.ListedObject.{ListedObject}
use Rattle.flutejoin.specs.declared.fill.listed_line.ListedLine.{ListedLine}
use Rattle.flutejoin.proofs.fill_lemmas.Behind.{behind_later}
use Rattle.flutejoin.proofs.fill_lemmas.Lists.{decided, last_more}

-- rising facts

rising_after : (F : List Fact) (x : Fact) (R : List Fact) → IsRising ((F ++ x ∷ []) ++ R)
    → StandAfter (address x) R
rising_after [] x R r = r.0
rising_after (f ∷ F) x R r = rising_after F x R r.1

module _ (p : Fact → Bool) where
  after_filter : (a : Address) (facts : List Fact) → StandAfter a facts
      → StandAfter a (filter p facts)
  after_filter a [] s = tt
  after_filter a (f ∷ facts) s = elim (cases_Bool _) [
    | inl e ↦ subst (λ b. StandAfter a (cond b (f ∷ filter p facts) (filter p facts))) (sym e)
        (s.0, after_filter a facts s.1)
    | inr e ↦ rw e (after_filter a facts s.1)
  ]

  rising_filter : (facts : List Fact) → IsRising facts → IsRising (filter p facts)
  rising_filter [] r = tt
  rising_filter (f ∷ facts) r = elim (cases_Bool _) [
    | inl e ↦ subst (λ b. IsRising (cond b (f ∷ filter p facts) (filter p facts))) (sym e)
        (after_filter _ _ r.0, rising_filter facts r.1)
    | inr e ↦ rw e (rising_filter facts r.1)
  ]

-- turns

turn_stay : (b c : Bool) → (if b then Lines else (if c then Stay else Facts)) ≡ Stay
    → (b ≡ false) × (c ≡ true)
turn_stay true c e = absurd cc
turn_stay false true e = (refl, refl)
turn_stay false false e = absurd cc

turn_facts : (b c : Bool) → (if b then Lines else (if c then Stay else Facts)) ≡ Facts
    → (b ≡ false) × (c ≡ false)
turn_facts true c e = absurd cc
turn_facts false true e = absurd cc
turn_facts false false e = (refl, refl)

turn_none : (b : Bool) → (if b then Lines else Stay) ≡ Facts → ⊥
turn_none true e = cc
turn_none false e = cc

turn_lines : (b c : Bool) → (if b then Lines else (if c then Stay else Facts)) ≡ Lines → b ≡ true
turn_lines true c e = refl
turn_lines false true e = absurd cc
turn_lines false false e = absurd cc

pub lines_behind : (asking : Asking) (object : Option ListedObject) (last : LastLine)
    (at : Option Address) → turn_of asking object last at ≡ Lines → is_behind last at ≡ true
lines_behind _ _ last None e = turn_lines _ true e
lines_behind asking object last (Some at) e = turn_lines _ _ e

pub not_ended : (asking : Asking) (object : Option ListedObject) (last : LastLine)
    (at : Option Address) → turn_of asking object last at ≡ Lines → last ≢ Ended
not_ended asking object last at e n =
    false≢true (sym (ap (λ l. is_behind l at) n) ∙ lines_behind _ _ _ at e)

facts_held : (asking : Asking) (object : Option ListedObject) (last : LastLine)
    (held : Option Fact) → turn_of asking object last (address_of held) ≡ Facts → held ≡ None → ⊥
facts_held _ _ last None t e = turn_none _ t
facts_held asking object last (Some f) t e = cc

all_read : (asking : Asking) (object : Option ListedObject) (last : LastLine) (held : Option Fact)
    → turn_of asking object last (address_of held) ≡ Stay → held ≡ None → last ≡ Ended
all_read asking object Unread None t e = absurd cc
all_read _ _ Ended None t e = refl
all_read asking object (Held l) None t e = absurd cc
all_read asking object last (Some f) t e = cc

-- what is held is asked for, or not, whatever lines follow

module _ (asking : Asking) (passed rest : List ListedLine) (object : Option ListedObject)
    (last : LastLine) (knows : Knows passed object)
    (o : AreInOrder None ((passed ++ line_of last) ++ rest)) (n : last ≡ Ended → rest ≡ []) where
  abbrev W : List ListedLine
  W = (passed ++ line_of last) ++ rest

  pub stay_asked : (held : Option Fact) → HasReached (last_of None passed) held → turn_of asking
      object last (address_of held) ≡ Stay → asked asking W (option_list held) ≡ option_list held
  stay_asked None r t = refl
  stay_asked (Some f) r t =
      let s = turn_stay _ _ t in
      ap (λ b. cond b (f ∷ []) []) (decided _ _ _ _ _ f knows r o n s.0 ∙ s.1)

  pub facts_asked : (held : Option Fact) → HasReached (last_of None passed) held → turn_of asking
      object last (address_of held) ≡ Facts → asked asking W (option_list held) ≡ []
  facts_asked None r t = refl
  facts_asked (Some f) r t =
      let s = turn_facts _ _ t in
      ap (λ b. cond b (f ∷ []) []) (decided _ _ _ _ _ f knows r o n s.0 ∙ s.1)

pub reached_new : (held : Option Fact) → HasReached None held
reached_new None = tt
reached_new (Some f) = tt

pub reached_later : (p : Option ListedLine) (held next : Option Fact) (F : List Fact)
    → (held ≡ None → ⊥) → IsRising ((F ++ option_list held) ++ option_list next)
    → HasReached p held → HasReached p next
reached_later p _ None F n r h = tt
reached_later p None (Some g) F n r h = absurd (n refl)
reached_later None (Some f) (Some g) F n r h = tt
reached_later (Some l) (Some f) (Some g) F n r h = behind_later l _ _ (rising_after F f _ r).0 h

pub reached_line : (last : LastLine) (passed : List ListedLine) (held : Option Fact)
    → (last ≡ Unread → passed ≡ []) → is_behind last (address_of held) ≡ true
    → HasReached (last_of None (passed ++ line_of last)) held
reached_line _ _ None u h = tt
reached_line Unread _ (Some f) u h = rw (u refl) tt
reached_line Ended _ (Some f) u h = absurd (false≢true h)
reached_line (Held l) passed (Some f) u h = rw (last_more None passed l) h

some_length : (held : Option Fact) → (held ≡ None → ⊥) → length (option_list held) ≡ 1
some_length None n = absurd (n refl)
some_length (Some f) n = refl

module _ {S R : Type 0} (a : Behaviour S) (unread : R → Option (List ℕ)) (failures : R → ℕ) where
  abbrev w : Behaviour (Filled S R)
  w = filled_behaviour a unread failures

  -- what was read of the lines, and any others
  module _ {x : Filled S R} (start : Filled S R) (F : List Fact)
      (B : Between a unread failures start x F) where
    abbrev all_lines : List ListedLine → List ListedLine
    all_lines rest = (B.passed ++ line_of x.list.last) ++ rest

    stay_left : turn_in a unread failures x ≡ Stay → (rest : List ListedLine) → AreInOrder None
        (all_lines rest) → (x.list.last ≡ Ended → rest ≡ []) → F ++ option_list (a.held x.facts) ≡
        asked x.asking (all_lines rest) (B.all ++ option_list (a.held x.facts))
    stay_left turn rest o n = ap (λ l. l ++ option_list (a.held x.facts)) (B.asked_for rest o n) ∙
        ap (λ l. asked x.asking (all_lines rest) B.all ++ l)
        (sym (stay_asked _ _ _ _ _ B.stands.knows o n _ B.reached turn)) ∙ sym
        (filter-append (asks x.asking (all_lines rest)) B.all (option_list (a.held x.facts)))

    facts_left : turn_in a unread failures x ≡ Facts → (rest : List ListedLine)
        → AreInOrder None (all_lines rest) → (x.list.last ≡ Ended → rest ≡ [])
        → F ≡ asked x.asking (all_lines rest) (B.all ++ option_list (a.held x.facts))
    facts_left turn rest o n = B.asked_for rest o n ∙ sym
        (append-nil (asked x.asking (all_lines rest) B.all)) ∙ ap
        (λ l. asked x.asking (all_lines rest) B.all ++ l)
        (sym (facts_asked _ _ _ _ _ B.stands.knows o n _ B.reached turn)) ∙ sym
        (filter-append (asks x.asking (all_lines rest)) B.all (option_list (a.held x.facts)))

  module _ {x t : Filled S R} where
    -- the facts go on
    module _ (start : Filled S R) (F G : List Fact)
        (B : Between a unread failures start x F) where
      facts_go : (a.held x.facts ≡ None → ⊥) → GoesOn a x.facts t.facts → ((rest : List ListedLine)
          → AreInOrder None (all_lines start F B rest) → (x.list.last ≡ Ended → rest ≡ []) → G ≡
          asked x.asking (all_lines start F B rest) (B.all ++ option_list (a.held x.facts))) →
          t.list ≡ x.list → t.asking ≡ x.asking → t.begun ≡ true → t.list_fault ≡ x.list_fault →
          Between a unread failures start t G
      facts_go n g left list asking begun sound =
          let v = g.gave start.facts B.all B.gave.passes in
          let A = B.all ++ option_list (a.held x.facts) in
          record {
            all = A;
            passed = B.passed;
            gave = v;
            stands = rw list B.stands;
            asked_for = rw list (subst (λ z. (rest : List ListedLine) → AreInOrder None
                (all_lines start F B rest) → (x.list.last ≡ Ended → rest ≡ []) → G ≡ asked z
                (all_lines start F B rest) A) (sym asking) left);
            reached = reached_later _ _ _ _ n v.rising B.reached;
            same = cc;
            begun = begun;
            sound = cc;
          }

    pub lets_go : x.begun ≡ true → (a.held x.facts ≡ None → ⊥) → GoesOn a x.facts t.facts
        → t.list ≡ x.list → t.asking ≡ x.asking → t.begun ≡ x.begun → t.list_fault ≡ x.list_fault
        → Walks a unread failures x t
    lets_go e n g list asking begun sound = record {
      between = λ start facts p. let q = subst (λ z. Passed a unread failures z start x facts) e
          p in facts_go start facts (facts ++ option_list (a.held x.facts)) q.0 n g
          (stay_left start facts q.0 q.1) list asking (begun ∙ e) sound;
      begun = begun ∙ e;
      fewer = g.fewer;
    }

    pub passes_facts : turn_in a unread failures x ≡ Facts → GoesOn a x.facts t.facts
        → t.list ≡ x.list → t.asking ≡ x.asking → t.begun ≡ x.begun → t.list_fault ≡ x.list_fault
        → Moves a unread failures x t true
    passes_facts turn g list asking begun sound =
        let n = facts_held _ _ _ _ turn in
        record {
          walks = λ y v. record {
            between = λ start facts p. let B = v.between start facts p in
                let F = facts ++ option_list (a.held y.facts) in
                facts_go _ F F B n g (facts_left _ F B turn) list asking (cc) sound;
            begun = cc;
            fewer = omega arith;
          };
          stays = λ e. absurd (false≢true (sym e));
          less = λ e. let one = some_length _ n in
              let m = ap (λ l. lines_left l.last l.number) list in
              omega arith;
        }

    -- the lines go on
    pub passes_lines : turn_in a unread failures x ≡ Lines → ((start : GapList R)
        (passed : List ListedLine) → Stands unread failures start x.list passed → Stands unread
        failures start t.list (passed ++ line_of x.list.last)) → lines_left t.list.last
        t.list.number < lines_left x.list.last x.list.number → t.facts ≡ x.facts → t.asking ≡
        x.asking → t.begun ≡ x.begun → t.list_fault ≡ x.list_fault → Moves a unread failures x t
        true
    passes_lines turn reads less facts_same asking begun sound =
        let behind = lines_behind x.asking x.list.object x.list.last (address_of (a.held x.facts))
        turn in
        let some = not_ended _ _ _ _ turn in
        record {
          walks = λ y v. record {
            between = λ start facts p. let B = v.between start facts p in
                let F = facts ++ option_list (a.held y.facts) in
                let L = B.passed ++ line_of x.list.last in
                record {
                  all = B.all;
                  passed = L;
                  gave = rw facts_same B.gave;
                  stands = reads start.list B.passed B.stands;
                  asked_for = λ rest o n. let assoc = append_assoc L (line_of t.list.last) rest
                      in B.asked_for (line_of t.list.last ++ rest) (rw (← assoc) o)
                      (λ e. absurd (some e)) ∙ ap (λ l. asked x.asking l B.all) (sym assoc) ∙ ap
                      (λ z. asked z ((L ++ line_of t.list.last) ++ rest) B.all) (sym asking);
                  reached = rw facts_same (reached_line _ _ _ B.stands.unread_yet behind);
                  same = cc;
                  begun = cc;
                  sound = cc;
                };
            begun = cc;
            fewer = rw facts_same v.fewer;
          };
          stays = λ e. absurd (false≢true (sym e));
          less = λ e. let m = ap (λ s. a.most s) facts_same in omega arith;
        }

    -- no more is passed over
    pub settled : Walks a unread failures x t → turn_in a unread failures t ≡ Stay → GoesOn w x t
    settled v stay = record {
      gave = λ start facts p.
          let F = facts ++ option_list (a.held x.facts) in
          let B = v.between start facts p in
          let held = a.held t.facts in
          let L = B.passed ++ line_of t.list.last in
          let o : AreInOrder None (L ++ []) = rw (append-nil L) B.stands.in_order in
          let e = with_held start F B stay o in
          record {
            passes = subst (λ z. Passed a unread failures z start t F) (sym B.begun) (B, stay);
            reads = tt;
            reads_held = tt;
            fails = (B.gave.fails, B.stands.fails);
            rising = rw e (rising_filter (asks t.asking (L ++ [])) (B.all ++ option_list held) B.gave.rising);
            sized = B.gave.sized;
            spelled = B.gave.spelled;
            ended = λ n.
                let z = all_read t.asking t.list.object t.list.last held stay n in record {
                  all = B.all;
                  lines = B.passed;
                  facts_are = B.gave.ended n;
                  lines_are = B.stands.ended z;
                  asked_for = all_asked start F B z;
                };
            ends = λ n.
                let z = all_read t.asking t.list.object t.list.last held stay n in record {
                  all = B.all;
                  lines = B.passed;
                  facts_are = B.gave.ends n;
                  lines_are = B.stands.ended z;
                  asked_for = all_asked start F B z;
                };
            known = λ K k. absurd k;
          };
      fewer = v.fewer;
    }
      where
        with_held : (start : Filled S R) (F : List Fact) (B : Between a unread failures start t F)
            → turn_in a unread failures t ≡ Stay
            → AreInOrder None ((B.passed ++ line_of t.list.last) ++ [])
            → F ++ option_list (a.held t.facts)
            ≡ asked t.asking ((B.passed ++ line_of t.list.last) ++ [])
            (B.all ++ option_list (a.held t.facts))
        with_held start F B stay o =
            let W = (B.passed ++ line_of t.list.last) ++ [] in
            ap (λ l. l ++ option_list (a.held t.facts)) (B.asked_for [] o (λ e. refl))
            ∙ ap (λ l. asked t.asking W B.all ++ l)
            (sym (stay_asked t.asking B.passed [] t.list.object t.list.last B.stands.knows o
            (λ e. refl) (a.held t.facts) B.reached stay))
            ∙ sym (filter-append (asks t.asking W) B.all (option_list (a.held t.facts)))

        all_asked : (start : Filled S R) (F : List Fact) (B : Between a unread failures start t F)
            → t.list.last ≡ Ended → F ≡ asked start.asking B.passed B.all
        all_asked start F B z =
            let L = B.passed ++ line_of t.list.last in
            let o : AreInOrder None (L ++ []) = rw (append-nil L) B.stands.in_order in
            let none : L ≡ B.passed = cc (append-nil B.passed) in
            B.asked_for [] o (λ e. refl)
            ∙ ap (λ l. asked t.asking l B.all) (cc)
            ∙ ap (λ s. asked s B.passed B.all) B.same

-- something is held if its address is lent
pub is_held : {place : Address} {held : Option Fact} → Some place ≡ address_of held → held ≡ None
    → ⊥
is_held {place} e n = none-some _ (sym (e ∙ ap address_of n))
