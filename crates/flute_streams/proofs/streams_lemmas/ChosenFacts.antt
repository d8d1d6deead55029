-- Chosen: a stream is advanced to its next fact that the choice takes (specs/ChosenStreams).
use Rattle.std.proofs.Common.{rules}
use Rattle.flute_streams.proofs.Common.{◌≡◌, ℕ, Bool, true, false}
use Rattle.flute_streams.proofs.Common.{append_assoc}
use Rattle.flute_streams.proofs.Common.{List, [], ◌∷◌, ◌++◌, Option}
use Rattle.flute_streams.proofs.Common.{sym, ap, ◌∙◌}
use Rattle.flute_streams.proofs.Common.{subst, append-nil, length, arith, ◌+◌, ◌-◌, ◌^◌}
use Rattle.flute_streams.proofs.Common.{◌≤◌, ◌<◌}
use Rattle.flute_streams.proofs.Common.{IsRising, StandAfter, Fact}
use Rattle.flute_streams.proofs.Common.{Behaviour, Continues, Gave, option_list, GoesOn}
use Rattle.std.specs.Prelude.{filter, min}
use Rattle.std.proofs.lemmas.List.Elements.{filter-append}
use Rattle.std.proofs.lemmas.List.Sums.{sum_by-append}
use Rattle.std.proofs.Math.Nat.{min-eq_left}
use Rattle.flute_parts.specs.declared.address.Address.{Address}
use Rattle.flute_streams.specs.declared.streams.chosen.Chosen.{Chosen}
use Rattle.flute_streams.specs.ChosenStreams.{is_passed_over, others_of, OfAll, CountsOthers}
use Rattle.flute_streams.specs.ChosenStreams.{chosen_behaviour}

module _ (p : Fact → Bool) where
  after_filter : (a : Address) (facts : List Fact) → StandAfter a facts
      → StandAfter a (filter p facts)
  after_filter a [] s = tt
  after_filter a (f ∷ facts) s = search (rules, after_filter a facts s.1)

  pub rising_filter : (facts : List Fact) → IsRising facts → IsRising (filter p facts)
  rising_filter [] r = tt
  rising_filter (f ∷ facts) r = search (rules, after_filter, rising_filter facts r.1)

module _ {C : Type 0} (takes : C → Fact → Bool) (s : C) where
  -- what is held counts as passed over if it is not taken, and not if it is
  held_counts : (held : Option Fact) → is_passed_over takes s held ≡ false
      → others_of (takes s) (option_list held) ≡ 0
  held_counts = search rules

  other_counts : (held : Option Fact) → is_passed_over takes s held ≡ true
      → others_of (takes s) (option_list held) ≡ 1
  other_counts = search rules

  others_both : (xs ys : List Fact)
      → others_of (takes s) (xs ++ ys) ≡ others_of (takes s) xs + others_of (takes s) ys
  others_both = search (rules, sum_by-append)

  and_held : (all facts : List Fact) (held : Option Fact) → facts ≡ filter (takes s) all
      → is_passed_over takes s held ≡ false
      → facts ++ option_list held ≡ filter (takes s) (all ++ option_list held)
  and_held = search (rules, filter-append)

  and_other : (all facts : List Fact) (held : Option Fact) → facts ≡ filter (takes s) all
      → is_passed_over takes s held ≡ true → facts ≡ filter (takes s) (all ++ option_list held)
  and_other = search (rules, filter-append)

  module _ {S : Type 0} (b : Behaviour S) where
    -- what a stream gave, of which these are the chosen facts
    abbrev pub GaveOf : S → S → List Fact → Type 0
    GaveOf start now facts = OfAll (takes s) (Gave b start now) facts

    -- it has given the fact that it held, and after it facts that are not taken
    pub record PassesOthers (old now : S) : Type 0 where
      pub passed : List Fact
      pub others : filter (takes s) passed ≡ []
      pub gave : (start : S) (all : List Fact) → b.passes start old all
          → Gave b start now ((all ++ option_list (b.held old)) ++ passed)
      pub fewer : b.most now + length (option_list (b.held old)) ≤ b.most old

    -- and the facts that were passed over were counted
    pub record CountsPassed (old now : S) (before counted : ℕ) : Type 0 where
      pub passes : PassesOthers old now
      pub counts : before + others_of (takes s) passes.passed < 2 ^ 64
          → counted ≡ before + others_of (takes s) passes.passed

    pub counts_first : (old now : S) (before : ℕ) → GoesOn b old now
        → CountsPassed old now before before
    counts_first old now before h = record { passes = search rules; counts = λ small. omega arith }

    pub counts_other : {old now next : S} {before counted more : ℕ} → CountsPassed old now before
        counted → is_passed_over takes s (b.held now) ≡ true → GoesOn b now next → more ≡ min
        (counted + 1) (2 ^ 64 - 1) → CountsPassed old next before more
    counts_other {old} {now} {next} {counted} h o g m =
        let passed = h.passes.passed in
        let given : List Fact → List Fact = λ all. all ++ option_list (b.held _) in
        record {
          passes = record {
            passed = passed ++ option_list (b.held _);
            others = sym (and_other _ [] _ (sym h.passes.others) o);
            gave = λ start all p. rw (← append_assoc _ _ (option_list (b.held now)))
                (g.gave start (given all ++ passed) (h.passes.gave start all p).passes);
            fewer = omega (arith, h.passes.fewer, g.fewer);
          };
          counts = λ small. let one = others_both passed (option_list (b.held now)) in
              let other = other_counts (b.held now) o in
              let was = h.counts (omega (arith, one, other, small)) in
              let least = min-eq_left {n = counted + 1} {m = 2 ^ 64 - 1}
              (omega (arith, one, other, small, was)) in omega (arith, one, other, was, m, least);
        }

  module _ {S : Type 0} (b : Behaviour S) (x t : Chosen S C) (was : x.choice ≡ s)
      (same : t.choice ≡ s) where
    abbrev w : Behaviour (Chosen S C)
    w = chosen_behaviour takes b

    -- The clauses of the trait (specs/Streams), once Chosen was advanced.
    module _ (start : Chosen S C) (F : List Fact) (p : w.passes start x F) where
      as_start : s ≡ start.choice
      as_start = sym was ∙ p.choice

      passed : OfAll (takes s) (λ all. b.passes start.stream x.stream all
          × CountsOthers takes start x all) F
      passed = search rules

      was_held : is_passed_over takes s (b.held x.stream) ≡ false
      was_held = search rules

      abbrev given : List Fact
      given = F ++ option_list (b.held x.stream)

      given_is : given ≡ filter (takes s) (passed.0 ++ option_list (b.held x.stream))
      given_is = search (rules, and_held)

      abbrev gave_given : (now : S) → PassesOthers b x.stream now → GaveOf b start.stream now given
      gave_given now h =
          let all = passed.0 ++ option_list (b.held x.stream) in (
            all ++ h.passed,
            h.gave start.stream passed.0 passed.1.0,
            given_is ∙ sym
                (append-nil (filter (takes s) all)) ∙ ap (λ l. filter (takes s) all ++ l) (sym h.others) ∙
                sym (filter-append (takes s) all h.passed),
          )

      -- all facts that it gave are taken, and those between were counted
      counted_given : (h : CountsPassed b x.stream t.stream x.others t.others) → CountsOthers takes
          start t ((passed.0 ++ option_list (b.held x.stream)) ++ h.passes.passed)
      counted_given h =
          let all = passed.0 ++ option_list (b.held _) in
          let P : C → Type 0 = λ z. start.others + others_of (takes z) (all ++ h.passes.passed) < 2
          ^ 64 → t.others ≡ start.others + others_of (takes z) (all ++ h.passes.passed) in
          let Q : C → Type 0 = λ z. start.others + others_of (takes z) passed.0 < 2 ^ 64 → x.others
          ≡ start.others + others_of (takes z) passed.0 in
          let before = subst Q (sym as_start) passed.1.1 in
          let e = others_both all h.passes.passed in
          let d = others_both passed.0 (option_list (b.held x.stream)) in
          let n = held_counts (b.held x.stream) was_held in
          subst P as_start (λ small. let old = before (omega (arith, e, d, n, small)) in
          let new = h.counts (omega (arith, e, d, n, small, old)) in
          omega (arith, e, d, n, old, new))

      -- if the stream contains these facts, those of them that are taken go on as given
      continues : (all K facts : List Fact) (held : Option Fact) → facts ≡ filter (takes s) all
          → OfAll (takes s) (λ l. Continues l all held) K → Continues K facts held
      continues all K facts held e k = search (rules, filter-append, rising_filter)

      -- Chosen is advanced if the stream is, up to a fact that is taken
      goes : CountsPassed b x.stream t.stream x.others t.others
          → is_passed_over takes s (b.held t.stream) ≡ false → Gave w start t given
      goes h o =
          let q = gave_given t.stream h.passes in
          let counts = counted_given h in
          let held = b.held _ in
          let e = and_held _ _ _ q.2 o in
          record {
            passes = search rules;
            reads = search rules;
            reads_held = search rules;
            fails = q.1.fails;
            rising = rw e (rising_filter (takes s) (q.0 ++ option_list held) q.1.rising);
            sized = q.1.sized;
            spelled = q.1.spelled;
            ended = search rules;
            ends = search rules;
            known = λ K k. let j = subst (λ z. OfAll (takes z) (b.knows start.stream) K)
                (sym as_start) k in continues (q.0 ++ option_list held) K
                (given ++ option_list held) held e (j.0, q.1.known j.0 j.1, j.2);
          }

    pub chosen_goes_on : CountsPassed b x.stream t.stream x.others t.others
        → is_passed_over takes s (b.held t.stream) ≡ false → GoesOn w x t
    chosen_goes_on = search (rules, goes)

-- whether a stream's head is passed over is whether the fact that it holds is
pub answered : {C : Type 0} (takes : C → Fact → Bool) {s z : C} (held : Option Fact)
    {result is : Bool} → result ≡ is_passed_over takes z held → z ≡ s → result ≡ is
    → is_passed_over takes s held ≡ is
answered = search rules
