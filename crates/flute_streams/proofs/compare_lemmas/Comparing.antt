-- Two streams are compared, one address after another (specs/Compares).
use Rattle.std.proofs.Common.{◌≡◌, ℕ, true, false, cond, Bool, List, [], ◌∷◌, ◌++◌, refl}
use Rattle.std.proofs.Common.{sym, ap, ◌∙◌, subst, Option, Some, None, append-nil}
use Rattle.std.proofs.Common.{append_assoc, length, length-append, arith, zero, suc}
use Rattle.std.proofs.Common.{◌+◌, ◌<◌, ◌≤◌, ◌^◌}
use Rattle.std.specs.Prelude.{map}
use Rattle.std.proofs.lemmas.Option.{none-some}
use Rattle.std.proofs.lemmas.List.{map-append}
use Rattle.std.specs.declared.cmp.Ordering.{Ordering}
use Rattle.std.specs.declared.cmp.Ordering.TheVariants.{Less, Equal, Greater}
use Rattle.flute_parts.specs.declared.address.Address.{Address}
use Rattle.flute_parts.specs.declared.fact.Fact.{Fact}
use Rattle.flute_parts.specs.declared.key.Key.{Key}
use Rattle.flute_parts.specs.Facts.{IsRising, StandAfter}
use Rattle.flute_streams.specs.Streams.{Behaviour, Gave, GoesOn, IsNew, option_list}
use Rattle.flute_streams.specs.Behind.{Behind, StandBefore}
use Rattle.flute_streams.specs.Compared.{row_of}
use Rattle.flute_streams.specs.Compares.{Counts, ComparedAs, GoesIf, GoesOnBoth, first_goes}
use Rattle.flute_streams.specs.Compares.{second_goes, keys_at, row_at}
use Rattle.flute_streams.specs.Compares.{StopAs, StopIn, StopsOne, StopsComparing, TellsBefore}
use Rattle.flute_streams.specs.Counting.{counted, counted_at, meeting_of, meeting_at, lowest_at}
use Rattle.flute_streams.specs.Counting.{row_for, to_tell, told_of}
use Rattle.flute_streams.specs.Counting.{option_row}
use Rattle.flute_streams.specs.declared.merge.sides.Meeting.{Meeting}
use Rattle.flute_streams.specs.declared.merge.sides.Row.{Row}
use Rattle.flute_streams.specs.declared.merge.sides.Side.{Side}
use Rattle.flute_streams.specs.declared.merge.sides.Side.TheVariants.{Same}
use Rattle.flute_streams.proofs.streams_lemmas.Before.{before_later, behind_new, rising_after}
use Rattle.flute_streams.specs.declared.merge.streams_fault.StreamsFault.{StreamsFault}
use Rattle.flute_streams.specs.declared.merge.streams_fault.StreamsFault.TheVariants.{Input, Write}
use Rattle.flute_streams.proofs.streams_lemmas.Before.{before_more}
use Rattle.flute_streams.proofs.compare_lemmas.CountedRows.{At, told_few}
use Rattle.flute_streams.proofs.compare_lemmas.Meetings.{Met, met_of}
use Rattle.flute_streams.proofs.compare_lemmas.RowsMet.{rows_met}

behind_all : (p : Address) (F : List Fact) (f held : Option Fact) → StandBefore p F → At p f
    → StandAfter p (option_list held) → Behind held (F ++ option_list f)
behind_all p F f None s d l = tt
behind_all p F None (Some x) s d l = rw (append-nil F) (before_later p _ F l.0 s)
behind_all p F (Some f) (Some x) s d l = before_more _ f F (rw d l.0) (before_later p _ F l.0 s)

-- one stream goes on, or stays

module _ {S : Type 0} (b : Behaviour S) (start s t : S) (F : List Fact) (f : Option Fact) where
  gave_on : (c : Bool) → Gave b start s F → GoesIf b c s t → f ≡ cond c (b.held s) None
      → Gave b start t (F ++ option_list f)
  gave_on true v g e = rw e (g.gave _ F v.passes)
  gave_on false v g e = rw e (rw (append-nil F) (rw g v))

after_given : (p : Address) (F : List Fact) (f y : Option Fact) → At p f → (f ≡ None → ⊥)
    → IsRising ((F ++ option_list f) ++ option_list y) → StandAfter p (option_list y)
after_given p F None y d n r = absurd (n refl)
after_given p F (Some f) y d n r = rw (← d) (rising_after F f _ r)

module _ {S : Type 0} (b : Behaviour S) (start s t : S) (F : List Fact) (f : Option Fact) where
  after_on : (p : Address) (c : Bool) → GoesIf b c s t → At p f → (c ≡ true → f ≡ None → ⊥)
      → (c ≡ false → StandAfter p (option_list (b.held s))) → Gave b start t (F ++ option_list f)
      → StandAfter p (option_list (b.held t))
  after_on p true g d n l v = after_given p F f _ d (n refl) v.rising
  after_on p false g d n l v = rw g (l refl)

meeting_none : (h k : Option Fact) → meeting_of h k ≡ None → (h ≡ None) × (k ≡ None)
meeting_none None None e = (refl, refl)
meeting_none (Some f) None e = absurd (none-some _ (sym e))
meeting_none None (Some g) e = absurd (none-some _ (sym e))
meeting_none (Some f) (Some g) e = absurd (by _ e)
  where
    by : (o : Ordering) → meeting_at (lowest_at o f g).0 (lowest_at o f g).1 ≡ None → ⊥
    by Less e = none-some _ (sym e)
    by Equal e = none-some _ (sym e)
    by Greater e = none-some _ (sym e)

told_rows : (F G : List Fact) (ks : List Key) → length F < 2 ^ 64 → length G < 2 ^ 64
    → map (told_of F G) ks ≡ map (row_of F G) ks
told_rows F G [] m n = refl
told_rows F G (k ∷ ks) m n = ap (λ r. r ∷ map (told_of F G) ks) (told_few F G k m n) ∙ ap
    (λ l. row_of F G k ∷ l) (told_rows F G ks m n)

-- how many facts were given, and may still be
module _ {S : Type 0} (b : Behaviour S) (s t : S) (F : List Fact) (f : Option Fact) where
  few_on : (c : Bool) (n : ℕ) → GoesIf b c s t → f ≡ cond c (b.held s) None
      → length F + b.most s ≤ n → length (F ++ option_list f) + b.most t ≤ n
  few_on true n g e h =
      let l = length-append F (option_list f) in
      let k = ap (λ x. length (option_list x)) e in
      omega (arith, l, k, g.fewer, h)
  few_on false n g e h =
      let l = length-append F (option_list f) in
      let k = ap (λ x. length (option_list x)) e in
      let m = ap (λ x. b.most x) g in
      omega (arith, l, k, m, h)

module _ {S T : Type 0} (a : Behaviour S) (b : Behaviour T) where
  new_gave : {A : Type 0} (c : Behaviour A) (s t : A) → IsNew c s → GoesOn c s t → Gave c s t []
  new_gave c s t n g = subst (λ h. Gave c s t ([] ++ option_list h)) n.held (g.gave s [] n.passes)

  new_few : {A : Type 0} (c : Behaviour A) (s t : A) → GoesOn c s t → 0 + c.most t ≤ c.most s
  new_few c s t g = omega arith

  pub counts_first : {s s' : S} {t t' : T} (old : List Row) → IsNew a s → IsNew b t
      → GoesOnBoth a b Same s t s' t' → Counts a b s t s' t' old old None
  counts_first {s} {s'} {t} {t'} old m n g = record {
    all = [];
    others = [];
    first = new_gave a s s' m g.0;
    second = new_gave b t t' n g.1;
    first_behind = behind_new _;
    second_behind = behind_new _;
    before = [];
    last = None;
    first_met = λ e. refl;
    told_is = sym (append-nil _);
    row_is = refl;
    rise = tt;
    named = λ key. refl;
    first_past = tt;
    second_past = tt;
    first_few = new_few a s s' g.0;
    second_few = new_few b t t' g.1;
  }

  pub first_stops : (s s' : S) (t t' : T) (fault : StreamsFault) → IsNew a s → IsNew b t
      → StopsOne a b Same s t s' t' fault → StopsComparing a b s t s' t' fault
  first_stops s s' t t' Write v n h = absurd h
  first_stops s s' t t' (Input fault) v n h =
      by _ h
    where
      by : (k : ℕ) → StopAs a b Same k fault.fault s t s' t' → StopIn a b k fault.fault s t s' t'
      by zero h =
          let r = h.0 s [] v.passes in
          (r.stops, r.fails, rw h.1 n.fails)
      by (suc (suc k)) h = absurd h
      by (suc zero) h =
          let r = h.1 t [] n.passes in (r.stops, r.fails, (new_gave a s s' v h.0).fails)

  module _ {s0 s : S} {t0 t : T} {old told : List Row} {row : Option Row} {m : Meeting}
      (c : Counts a b s0 t0 s t old told row)
      (e : meeting_of (a.held s) (b.held t) ≡ Some m) where
    abbrev M : Met (a.held s) (b.held t) m c.all c.others
    M = met_of m c.all c.others (a.held s) (b.held t) e c.first_behind c.second_behind
        c.first.rising c.second.rising

    pub counts_more : (s' : S) (t' : T) {told' : List Row} {row' : Row} → GoesOnBoth a b m.side s t s' t'
        → told' ≡ told ++ to_tell row m.at.key → row' ≡ counted (row_for row m.at.key) m
        → Counts a b s0 t0 s' t' old told' (Some row')
    counts_more s' t' {told'} {row'} g is r =
        let v = gave_on a s0 s s' c.all M.f (first_goes m.side) c.first g.0 M.takes_f in
        let w = gave_on b t0 t t' c.others M.g (second_goes m.side) c.second g.1 M.takes_g in
        let x = after_on a s0 s s' c.all M.f m.at (first_goes m.side) g.0 M.next.at M.some_f M.stays_f v in
        let y = after_on b t0 t t' c.others M.g m.at (second_goes m.side) g.1 M.next.at_others M.some_g M.stays_g w in
        let rows = rows_met M.next M.some
        old told told' row' c.before c.last c.first_met
        (λ z i. M.after z (rw i at c.first_past)
        (rw i at c.second_past))
        c.told_is c.row_is
        (is, r ∙ ap (λ d. counted_at (row_for row m.at.key) m.at.part d) M.side) c.rise c.named in
        record {
          all = c.all ++ option_list M.f;
          others = c.others ++ option_list M.g;
          first = v;
          second = w;
          first_behind = behind_all m.at c.all M.f (b.held t') M.next.early M.next.at y;
          second_behind = behind_all m.at c.others M.g (a.held s') M.next.early_others M.next.at_others x;
          before = rows.before;
          last = Some m.at;
          first_met = λ i. absurd (none-some m.at (sym i));
          told_is = rows.told_is;
          row_is = ap Some rows.row_is;
          rise = rows.rise;
          named = rows.named;
          first_past = x;
          second_past = y;
          first_few = few_on a s s' c.all M.f (first_goes m.side) (a.most s0) g.0 M.takes_f c.first_few;
          second_few = few_on b t t' c.others M.g (second_goes m.side) (b.most t0) g.1 M.takes_g
              c.second_few;
        }

  pub counts_end : {s0 s : S} {t0 t : T} {old told told' : List Row} {row : Option Row} → a.most s0
      < 2 ^ 64 → b.most t0 < 2 ^ 64 → Counts a b s0 t0 s t old told row → meeting_of (a.held s)
      (b.held t) ≡ None → told' ≡ told ++ option_row row → ComparedAs a b s0 t0 s t old told'
  counts_end {s} {t} {old} {told} {row} few few_others c e is =
      let n = meeting_none (a.held s) (b.held t) e in
      let R = told_of c.all c.others in
      record {
        facts = c.all;
        others = c.others;
        first_tells = c.first.ended n.0;
        second_tells = c.second.ended n.1;
        first_ends = c.first.ends n.0;
        second_ends = c.second.ends n.1;
        first_quiet = c.first.fails;
        second_quiet = c.second.fails;
        first_few = omega arith;
        second_few = omega arith;
        rows = map _ _;
        are = record {
          keys = c.before ++ keys_at c.last;
          rise = c.rise;
          all = c.named;
          are = refl;
        };
        told = is ∙ ap (λ l. l ++ option_row row) c.told_is
            ∙ append_assoc old (map R _) (option_row row)
            ∙ ap (λ l. old ++ l) (ap (λ r. map R c.before ++ option_row r) c.row_is
            ∙ ap (λ l. map R c.before ++ l) (row_keys c.all c.others c.last)
            ∙ sym (map-append R c.before (keys_at c.last))
            ∙ told_rows _ _ _
            (omega arith) (omega arith));
      }
    where
      row_keys : (F G : List Fact) (last : Option Address)
          → option_row (row_at F G last) ≡ map (told_of F G) (keys_at last)
      row_keys F G None = refl
      row_keys F G (Some x) = refl

-- what was told before a stream stopped
module _ {S T V : Type 0} (a : Behaviour S) (b : Behaviour T) (side : Side)
    (s : S) (t : T) (s' : S) (t' : T) (takes : V → List Row → V → Type 0) (fails : V → V → Type 0) where
  pub told_before : (old new : V) (rows : List Row) (fault : StreamsFault) → StopsOne a b side s t
      s' t' fault → takes old rows new → TellsBefore takes fails old new fault
  told_before old new rows (Input fault) stops taken = (rows, taken)
  told_before old new rows Write stops taken = absurd stops
