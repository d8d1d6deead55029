-- Minus: how its streams go on (specs/MinusStreams).
use Rattle.std.proofs.Common.{◌≡◌, true, false, List, [], ◌++◌}
use Rattle.std.proofs.Common.{refl, sym, ap, ◌∙◌, subst, inl}
use Rattle.std.proofs.Common.{Result, Err, IfErr, Option, Some, None, append-nil, arith}
use Rattle.std.proofs.lemmas.Bool.{false≢true}
use Rattle.std.proofs.lemmas.Option.{none-some}
use Rattle.std.proofs.lemmas.List.Elements.{filter-append}
use Rattle.flute_parts.specs.Facts.{IsRising}
use Rattle.flute_parts.specs.declared.address.Address.{Address}
use Rattle.flute_parts.specs.declared.fact.Fact.{Fact}
use Rattle.flute_journal.specs.declared.fault.LoadFault.{LoadFault}
use Rattle.flute_streams.specs.Streams.{Behaviour, Continues, Gave, GoesOn, Stopped, StopsAt}
use Rattle.flute_streams.specs.Streams.{option_list, address_of}
use Rattle.flute_streams.specs.declared.streams.minus.Minus.{Minus}
use Rattle.flute_streams.specs.declared.streams.minus.Turn.TheVariants.{Stay, First, Second}
use Rattle.flute_streams.specs.Behind.{UpTo}
use Rattle.flute_streams.proofs.streams_lemmas.Before.{behind_new, rising_after}
use Rattle.flute_streams.proofs.streams_lemmas.ChosenFacts.{rising_filter}
use Rattle.flute_streams.specs.Minus.{minus}
use Rattle.flute_streams.specs.MinusStreams.{turn_of, StillNew, Between, Passed}
use Rattle.flute_streams.specs.MinusStreams.{minus_behaviour, Walks, Moves}
use Rattle.flute_streams.proofs.streams_lemmas.MinusTurns.{behind_goes, behind_second, first_holds}
use Rattle.flute_streams.proofs.streams_lemmas.MinusTurns.{left_second, second_holds, some_length}
use Rattle.flute_streams.proofs.streams_lemmas.MinusTurns.{stay_ended, untouched, up_to_first}
use Rattle.flute_streams.proofs.streams_lemmas.MinusTurns.{up_to_goes, up_to_none, up_to_stay}
use Rattle.flute_streams.proofs.streams_lemmas.MinusTurns.{with_held, without_held}

module _ {S T : Type 0} (a : Behaviour S) (b : Behaviour T) where
  abbrev w : Behaviour (Minus S T)
  w = minus_behaviour a b

  as_new : {A : Type 0} (c : Behaviour A) (start x y : A) → StillNew c start x → GoesOn c x y
      → Gave c start y []
  as_new c start x y n g =
      subst (λ h. Gave c start y ([] ++ option_list h)) n.held (g.gave _ [] n.passes)

  -- what both streams are known to have goes on as what is left of it
  module _ (held other : Option Fact) (all others : List Fact) where
    known : (K L F : List Fact) → F ≡ minus (all ++ option_list held) (others ++ option_list other)
        → UpTo other (all ++ option_list held) → turn_of held other ≡ Stay
        → Continues K (all ++ option_list held) held
        → Continues L (others ++ option_list other) other → Continues (minus K L) F held
    known K L F e u t k l =
        let A = all ++ option_list held in
        record {
          rest = minus _ L;
          is = ap (λ z. minus z L) k.is ∙ filter-append _ A _
              ∙ ap (λ z. z ++ minus k.rest L)
              (ap (λ z. minus A z) l.is ∙ same_left _ _ A _ u
              (rw (← l.is) l.rising) l.ended ∙ sym e);
          rising = rising_filter _ K k.rising;
          ended = λ n. ap (λ z. minus z L) (k.ended n);
        }
      where
        same_left : (other : Option Fact) (others A R : List Fact) → UpTo other A
            → IsRising ((others ++ option_list other) ++ R) → (other ≡ None → R ≡ [])
            → minus A ((others ++ option_list other) ++ R) ≡ minus A (others ++ option_list other)
        same_left None others A R u r n =
            ap (λ z. minus A ((others ++ []) ++ z)) (n refl)
            ∙ ap (λ z. minus A z) (append-nil _)
        same_left (Some g) others A R u r n =
            untouched g A _ R u (rising_after _ g R r)

  module _ {x t : Minus S T} where
    -- new ones take their first facts
    pub begins : x.begun ≡ false → GoesOn a x.first t.first → GoesOn b x.second t.second
        → t.begun ≡ true → t.in_second ≡ false → Walks a b x t
    begins e g h begun sound = record {
      between = λ start facts p.
          let q = rw e at p in
          subst (λ l. Between a b start t l)
          (sym (ap (λ l. l ++ option_list (a.held x.first)) q.2
          ∙ ap (λ h. option_list h) q.0.held))
          (record {
            all = [];
            others = [];
            first = as_new a _ _ _ q.0 g;
            second = as_new b _ _ _ q.1 h;
            left = refl;
            up_to = up_to_none _;
            behind = behind_new _;
            begun = begun;
            sound = sound;
          });
      begun = begun;
      fewer = g.fewer;
    }

    -- the first goes on
    module _ (start : Minus S T) (F G : List Fact) (B : Between a b start x F) where
      first_goes : (a.held x.first ≡ None → ⊥) → GoesOn a x.first t.first
          → G ≡ minus (B.all ++ option_list (a.held x.first)) (B.others ++ option_list (b.held x.second))
          → UpTo (b.held x.second) (B.all ++ option_list (a.held x.first)) → t.second ≡ x.second
          → t.begun ≡ true → t.in_second ≡ false → Between a b start t G
      first_goes n g left up same begun sound =
          let v = g.gave _ _ B.first.passes in
          record {
            all = B.all ++ option_list (a.held _);
            others = B.others;
            first = v;
            second = rw same B.second;
            left = rw same left;
            up_to = rw same up;
            behind = behind_goes _ _ _ _ n v.rising B.behind;
            begun = begun;
            sound = sound;
          }

    first_stops : (start : Minus S T) (F G : List Fact) {fault : LoadFault}
        (B : Between a b start x F) → StopsAt a x.first t.first fault → G ≡ minus
        (B.all ++ option_list (a.held x.first)) (B.others ++ option_list (b.held x.second)) →
        t.second ≡ x.second → t.in_second ≡ false → Stopped w start t G fault
    first_stops start F G B g left same sound =
        let r = g start.first B.all B.first.passes in
        let C = B.others ++ option_list (b.held _) in
        record {
          reads = record {
            all = B.all ++ option_list (a.held _);
            others = C;
            first = r.reads;
            second = rw same B.second.reads_held;
            left = left;
          };
          fails = rw sound (r.stops, r.fails, rw same B.second.fails);
          stops = inl r.stops;
        }

    pub lets_go : x.begun ≡ true → (a.held x.first ≡ None → ⊥) → GoesOn a x.first t.first
        → t.second ≡ x.second → t.begun ≡ true → t.in_second ≡ x.in_second → Walks a b x t
    lets_go e n g same begun sound = record {
      between = λ start facts p. let q = subst (λ z. Passed a b z start x facts) e p in
          let B = q.0 in
          first_goes _ _ _ B n g (with_held _ _ _ B.all _ B.left B.behind q.1)
          (up_to_stay _ _ _ q.1 B.up_to) same begun (sound ∙ B.sound);
      begun = begun;
      fewer = g.fewer;
    }

    pub lets_go_not : {fault : LoadFault} → x.begun ≡ true → StopsAt a x.first t.first fault
        → t.second ≡ x.second → t.in_second ≡ x.in_second → StopsAt w x t fault
    lets_go_not e g same sound = λ start facts p. let q = subst (λ z. Passed a b z start x facts) e
        p in
        let B = q.0 in
        first_stops _ _ _ B g (with_held _ _ _ B.all _ B.left B.behind q.1) same (sound ∙ B.sound)

    pub passes_first : turn_of (a.held x.first) (b.held x.second) ≡ First → GoesOn a x.first t.first
        → t.second ≡ x.second → t.begun ≡ x.begun → t.in_second ≡ x.in_second → Moves a b x t true
    passes_first turn g same begun sound =
        let n = first_holds _ _ turn in
        record {
          walks = λ y v. record {
            between = λ start facts p. let B = v.between _ _ p in
                let F = facts ++ option_list (a.held _) in
                first_goes _ F F B n g (without_held _ _ F _ _ B.left B.behind turn)
                (up_to_first _ _ _ turn B.up_to) same (begun ∙ v.begun) (sound ∙ B.sound);
            begun = begun ∙ v.begun;
            fewer = omega arith;
          };
          stays = λ e. absurd (false≢true (sym e));
          less = λ e. let one = some_length _ n in
              let m = ap (λ s. b.most s) same in
              omega arith;
        }

    pub passes_first_not : {fault : LoadFault} → turn_of (a.held x.first) (b.held x.second) ≡ First
        → StopsAt a x.first t.first fault → t.second ≡ x.second → t.in_second ≡ x.in_second
        → (y : Minus S T) → Walks a b y x → StopsAt w y t fault
    passes_first_not turn g same sound y v = λ start facts p. let B = v.between _ _ p in
        let F = facts ++ option_list (a.held _) in
        first_stops _ F F B g (without_held _ _ F _ _ B.left B.behind turn) same (sound ∙ B.sound)

    -- the second goes on
    pub passes_second : turn_of (a.held x.first) (b.held x.second) ≡ Second → GoesOn b x.second
        t.second → t.first ≡ x.first → t.begun ≡ x.begun → t.in_second ≡ false → Moves a b x t true
    passes_second turn g same begun sound =
        let n = second_holds _ _ turn in
        record {
          walks = λ y v. record {
            between = λ start facts p. let B = v.between _ _ p in
                let F = facts ++ option_list (a.held _) in
                let r = g.gave _ _ B.second.passes in
                record {
                  all = B.all;
                  others = B.others ++ option_list (b.held _);
                  first = rw same B.first;
                  second = r;
                  left = left_second _ F _ _ _ n r.rising B.up_to B.left;
                  up_to = up_to_goes _ _ _ _ n r.rising B.up_to;
                  behind = rw same (behind_second _ _ _ turn B.behind);
                  begun = begun ∙ v.begun;
                  sound = sound;
                };
            begun = begun ∙ v.begun;
            fewer = rw same v.fewer;
          };
          stays = λ e. absurd (false≢true (sym e));
          less = λ e. let one = some_length _ n in
              let m = ap (λ s. a.most s) same in
              omega arith;
        }

    -- no more is passed over
    pub settled : Walks a b x t → turn_of (a.held t.first) (b.held t.second) ≡ Stay → GoesOn w x t
    settled v stay = record {
      gave = λ start facts p.
          let F = facts ++ option_list (a.held _) in
          let B = v.between _ _ p in
          let held = a.held _ in
          let other = b.held _ in
          let e = with_held _ _ F _ _ B.left B.behind stay in
          let all_left : other ≡ None → F ≡ minus B.all B.others =
          λ n. B.left ∙ ap (λ z. minus B.all z)
          (ap (λ h. B.others ++ option_list h) n ∙ append-nil _) in
          record {
            passes = subst (λ z. Passed a b z start t F) (sym B.begun) (B, stay);
            reads = record {
              all = B.all;
              others = B.others ++ option_list other;
              first = B.first.reads;
              second = B.second.reads_held;
              left = B.left;
            };
            reads_held = record {
              all = B.all ++ option_list held;
              others = B.others ++ option_list other;
              first = B.first.reads_held;
              second = B.second.reads_held;
              left = e;
            };
            fails = (B.first.fails, B.second.fails);
            rising = rw e
                (rising_filter _ _
                B.first.rising);
            sized = B.first.sized;
            spelled = B.first.spelled;
            ended = λ n.
                let m = stay_ended _ _ stay n in record {
                  all = B.all;
                  others = B.others;
                  first = B.first.ended n;
                  second = B.second.ended m;
                  left = all_left m;
                };
            ends = λ n.
                let m = stay_ended _ _ stay n in record {
                  all = B.all;
                  others = B.others;
                  first = B.first.ends n;
                  second = B.second.ends m;
                  left = all_left m;
                };
            known = λ K k.
                rw k.left
                (known _ _ _ _ _ _ _ e
                (up_to_stay held other B.all stay B.up_to) stay
                (B.first.known k.all k.first) (B.second.known k.others k.second));
          };
      fewer = v.fewer;
    }

-- something is held if its address is lent
pub is_held : {place : Address} {held : Option Fact} → Some place ≡ address_of held → held ≡ None → ⊥
is_held e n = none-some _ (sym (e ∙ ap address_of n))

-- what holds of the fault that is told
pub told : {A E : Type 0} (P : E → Type 0) (r : Result A E) {y : E}
    → (x : E) × (r ≡ Err x) × (x ≡ y) → P y → IfErr r P
told P r e p = rw (e.1 ∙ ap Err e.2) p
