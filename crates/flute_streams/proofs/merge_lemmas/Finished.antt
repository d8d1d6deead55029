-- Once a merge has stopped, the streams before are read to their ends (specs/FirstFaults).
use Rattle.std.proofs.Common.{rules}
use Rattle.flute_streams.proofs.Common.{Advances, AppendsNoJournal, AppendsPart, Behaviour, Bool}
use Rattle.flute_streams.proofs.Common.{CanGoOn, Err, Fact, FactRef, FailAs, Gave, GaveBefore}
use Rattle.flute_streams.proofs.Common.{Input, InputFault, MergedJournal, List, LoadFault}
use Rattle.flute_streams.proofs.Common.{NamesInput, None, Ok, OneFails, Option, PutsJournal, Some}
use Rattle.flute_streams.proofs.Common.{StreamsFault, Written, [], ap, arith, err_from_is_err_and}
use Rattle.flute_streams.proofs.Common.{fact_in, false, is_some, length, length-set, option_list}
use Rattle.flute_streams.proofs.Common.{refl, same_Some, set, slice_get, subst, suc, sym, true}
use Rattle.flute_streams.proofs.Common.{zero, ℕ, ◌+◌, ◌<◌, ◌∙◌, ◌∷◌}
use Rattle.flute_streams.proofs.Common.{◌≡◌, ◌≢◌, ◌≤◌}
use Rattle.flute_journal.proofs.Public.{no_whole_end}
use Rattle.flute_streams.proofs.merge_lemmas.LeadFacts.{set_here, set_elsewhere}
use Rattle.flute_streams.specs.FirstFaults.{IsStopOf, HasStopped, TellBefore}

pub some_held : (o : Option FactRef) (t : Bool) → t ≡ is_some o → t ≡ true
    → is_some (fact_in o) ≡ true
some_held = grind arith

pub none_held : (o : Option FactRef) (t : Bool) → t ≡ is_some o → t ≡ false → fact_in o ≡ None
none_held = grind arith

module _ {S : Type 0} (b : Behaviour S) where
  -- how many facts the stream with this number may still hold
  abbrev most_in : Option S → ℕ
  most_in None = 0
  most_in (Some s) = b.most s

  abbrev pub most_at : List S → ℕ → ℕ
  most_at streams k = most_in (slice_get streams k)

  -- the stream with this number gave some facts since it was new
  pub record OneGave (start : S) (k : ℕ) (now : List S) : Type 0 where
    pub stream : S
    pub is : slice_get now k ≡ Some stream
    pub given : List Fact
    pub gave : Gave b start stream given

  -- the stream with this number was read on, and the others are as they were
  pub record ReadOn (k : ℕ) (old now : List S) : Type 0 where
    pub as_many : length now ≡ length old
    pub others : (j : ℕ) → j ≢ k → slice_get now j ≡ slice_get old j
    pub gave : (start s : S) (F : List Fact) → slice_get old k ≡ Some s → Gave b start s F
        → OneGave start k now

  pub others_on : (k j : ℕ) (now new : List S) (after : S) → new ≡ set now k after → j ≢ k
      → slice_get new j ≡ slice_get now j
  others_on = search (rules, set_elsewhere)

  pub read-more : {k : ℕ} {old now new : List S} → ReadOn k old now
      → Advances b k now new (Ok tt) → ReadOn k old new
  read-more {k} {now} {new} r a = record {
    as_many = ap length a.now ∙ length-set now k a.after ∙ r.as_many;
    others = λ j n. others_on k j now new a.after a.now n ∙ r.others j n;
    gave = λ start s F e g. let h = r.gave start s F e g in
        let same = same_Some h.stream a.before (sym h.is ∙ a.was) in
        let on = a.goes_on.gave start h.given
        (subst (λ x. b.passes start x h.given) same h.gave.passes) in record {
          stream = a.after;
          is = ap (λ l. slice_get l k) a.now ∙ set_here b now k a.before a.after a.was;
          given = _;
          gave = on;
        };
  }

  pub read-falls : (k : ℕ) (now new : List S) (o : Option Fact)
      → ((s : S) → slice_get now k ≡ Some s → o ≡ b.held s) → is_some o ≡ true
      → Advances b k now new (Ok tt) → most_at new k < most_at now k
  read-falls = search (rules, set_here)

  pub read_stops : {k : ℕ} {old now new : List S} {f : LoadFault} → ReadOn k old now → Advances b k
      now new (Err f) → (start s : S) (F : List Fact) → slice_get old k ≡ Some s → Gave b start s F
      → IsStopOf b start k new f
  read_stops {k} {now} r a start s F e g =
      let h = r.gave _ s F e g in
      let same = same_Some _ _ (sym h.is ∙ a.was) in
      let on = a.stops _ h.given (rw (← same) h.gave.passes) in
      record {
        stream = a.after;
        is = ap (λ l. slice_get l k) a.now ∙ set_here b _ k _ _ a.was;
        stops = on.stops;
        fails = on.fails;
      }

  pub read-told : {k : ℕ} {old now : List S} {o : Option Fact} → ReadOn k old now →
      ((s : S) → slice_get now k ≡ Some s → o ≡ b.held s) → o ≡ None → (start s : S) (F : List Fact)
      → slice_get old k ≡ Some s → Gave b start s F → (told : List Fact) × b.tells start told
  read-told r held none start s F e g =
      let h = r.gave _ s F e g in
      (h.given, h.gave.ended (sym (held _ h.is) ∙ none))

  -- One stream after another is read to its end.

  -- a stream that was before that number had given some facts
  pub record GaveAt (start now : List S) (k : ℕ) : Type 0 where
    pub new : S
    pub stream : S
    pub was : slice_get start k ≡ Some new
    pub is : slice_get now k ≡ Some stream
    pub given : List Fact
    pub gave : Gave b new stream given

  pub gave_at : (n k : ℕ) (start now : List S) → GaveBefore b n start now → k < n
      → GaveAt start now k
  gave_at zero k start now g l = absurd (omega arith)
  gave_at (suc n) zero (s ∷ start) (t ∷ now) g l =
      record { new = s; stream = t; was = refl; is = refl; given = g.0.0; gave = g.0.1 }
  gave_at (suc n) (suc k) (s ∷ start) (t ∷ now) g l =
      let r = gave_at n k start now g.1 (omega arith) in
      record {
        new = r.new;
        stream = r.stream;
        was = r.was;
        is = r.is;
        given = r.given;
        gave = r.gave;
      }
  gave_at (suc n) k start now g l = absurd g

  pub tell-more : (k : ℕ) (start : List S) (s : S) → TellBefore b k start → slice_get start k ≡ Some
      s → (F : List Fact) × b.tells s F → TellBefore b (suc k) start
  tell-more zero [] s h e t = absurd cc
  tell-more zero (x ∷ start) s h e t = (rw (same_Some x s e) t, tt)
  tell-more (suc k) [] s h e t = absurd h
  tell-more (suc k) (x ∷ start) s h e t = (h.0, tell-more k start s h.1 e t)

  -- those that were not reached are as they were, and those before have ended
  pub record Reached (n k : ℕ) (old now : List S) : Type 0 where
    pub as_many : length now ≡ length old
    pub behind : (j : ℕ) → k ≤ j → slice_get now j ≡ slice_get old j
    pub told : (start : List S) → GaveBefore b n start old → TellBefore b k start

  one_more : (k : ℕ) → suc k ≡ k + 1
  one_more k = omega arith

  pub reached-more : {n k : ℕ} {old now new : List S} → k < n → Reached n k old now → length new ≡
      length now → ((j : ℕ) → j ≢ k → slice_get new j ≡ slice_get now j) → ((start s : S)
      (F : List Fact) → slice_get now k ≡ Some s → Gave b start s F → (told : List Fact) × b.tells
      start told) → Reached n (k + 1) old new
  reached-more {n} {k} {old} l r len others told = record {
    as_many = len ∙ r.as_many;
    behind = search rules;
    told = λ start g. let a = gave_at n k _ _ g l in rw (← one_more k) (tell-more k _ _
        (r.told _ g) a.was (told _ a.stream a.given (r.behind k (omega arith) ∙ a.is) a.gave));
  }

  pub reached-stop : {n k : ℕ} {old now new : List S} {f : LoadFault} → k < n → Reached n k old now
      → ((start s : S) (F : List Fact) → slice_get now k ≡ Some s → Gave b start s F → IsStopOf b
      start k new f) → (start : List S) → GaveBefore b n start old → HasStopped b start new
      (record { number = k; fault = f })
  reached-stop {n} {k} {new} l r stops start g =
      let a = gave_at n k _ _ g l in
      record { new = a.new; was = a.was; stop = search rules }

  -- one that stopped in a merge
  pub has-stopped : (k : ℕ) (f : LoadFault) (old now : List S) (s : S) → slice_get old k ≡ Some s →
      b.stops s f → OneFails b k f old now → HasStopped b old now (record { number = k; fault = f })
  has-stopped zero f (x ∷ old) (t ∷ now) s e h o = grind arith
  has-stopped (suc k) f (x ∷ old) (t ∷ now) s e h o =
      let r = has-stopped k f old now s e h o.1 in
      record { new = r.new; was = r.was; stop = search rules }
  has-stopped k f old now s e h o = absurd o

  pub stopped_of : (fault : StreamsFault) (i : InputFault) (old now : List S) → fault ≡ Input i
      → NamesInput b old fault → FailAs b {T = MergedJournal} (Err fault) old now
      → HasStopped b old now i
  stopped_of = grind (arith, has-stopped)

  pub gave_of : (fault : StreamsFault) (i : InputFault) (old now : List S) → fault ≡ Input i
      → CanGoOn b old now fault → GaveBefore b i.number old now
  gave_of = search rules

-- where the sink failed, what was appended is no journal
pub cut_journal : (u v : Option (List ℕ)) (facts : List Fact) (count : ℕ) (cut : Bool)
    → cut ≡ true → PutsJournal cut u v facts count → AppendsNoJournal u v
cut_journal u v facts count cut e p =
    let part : AppendsPart u v p.bytes = search rules in
    record {
      bytes = part.part;
      appended = part.appended;
      no_journal = no_whole_end _ _ _ p.journal.1.valid part.cut (sym part.whole ∙ p.journal.3);
    }

-- a stream that stopped as it was read on
pub ruleset reads_on = (others_on, err_from_is_err_and, read_stops)
