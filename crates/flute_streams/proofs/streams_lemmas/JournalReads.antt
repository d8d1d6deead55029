-- Reading on in a journal advances its stream (specs/JournalStreams).
use Rattle.std.proofs.Common.{rules}
use Rattle.flute_streams.proofs.Common.{journal_framing, Behaviour, Bool, Consumes-kept, Continues}
use Rattle.flute_streams.proofs.Common.{Ended, Err, Fact, Failed, FailsIf, FailsSince, Gives}
use Rattle.flute_streams.proofs.Common.{GivesEnd, GoesOn, HasFault, IfSome}
use Rattle.flute_streams.proofs.Common.{IsJournalOfAll, IsJournalWithin, IsRising}
use Rattle.flute_streams.proofs.Common.{IsSized, IsTrue, Keeps, LentStream, List, LoadFault, None}
use Rattle.flute_streams.proofs.Common.{Ok, Option, ReadAt, ReadFault, ReadWhole, ReadsEntries}
use Rattle.flute_streams.proofs.Common.{Result}
use Rattle.flute_streams.proofs.Common.{SameLoans, Sofar, Some, ReaderState, Before, StopsAt, []}
use Rattle.flute_streams.proofs.Common.{ap, append-nil, arith, is_open}
use Rattle.flute_streams.proofs.Common.{journal_behaviour, length, limit_of, option_list, refl}
use Rattle.flute_streams.proofs.Common.{room, source_of, state_of, sym}
use Rattle.flute_streams.proofs.Common.{unread_of, ℕ, ◌++◌, ◌+◌, ◌∙◌}
use Rattle.flute_streams.proofs.Common.{◌∷◌, ◌≡◌, ◌≤◌}
use Rattle.flute_journal.proofs.Public.{ahead-sofar, reads-side, reads-sofar, reads-fault, AtEnd}
use Rattle.flute_journal.proofs.Public.{whole-at, side-from, sofar-fault, journal_sound}
use Rattle.flute_journal.proofs.Public.{all_split, fact_sized, spelling-injective}
use Rattle.flute_journal.proofs.Public.{BeginsWithJournal}
use Rattle.flute_journal.specs.HeldEntries.{HoldsNext}
use Rattle.flute_journal.specs.declared.fault.LoadFault.TheVariants as load
use Rattle.flute_streams.specs.JournalStreams.{JournalState, reading_of}

-- what was read, once the next entry or the end was
abbrev Read : ℕ → Option (List ℕ) → Option (List ℕ) → ReaderState Before → List Fact → Option Fact
    → Type 0
Read limit u w state F (Some f) = Sofar journal_framing limit u w state (F ++ f ∷ [])
Read limit u w state F None = ReadWhole limit u w F × (state ≡ Ended)

-- what was read up to an entry or to the end
whole_at : (limit : ℕ) (u w : Option (List ℕ)) (F : List Fact) → AtEnd journal_framing limit u w F
    → ReadWhole limit u w F
whole_at limit u w F s = record {
  are_items = s.are_items;
  whole = whole-at journal_sound _ u w F s;
  read = reads-side limit u w Ended F None s;
}

whole_kept : (limit : ℕ) (u v w : Option (List ℕ)) (F : List Fact) → ReadWhole limit u v F
    → Keeps v w → ReadWhole limit u w F
whole_kept limit u v w F r k = search (rules, Consumes-kept)

-- a reader that gave these entries, after which one is held, was called again
pub record IsCalled (limit own : ℕ) (u v w : Option (List ℕ)) (old new : ReaderState Before)
    (F : List Fact) (held : Option Fact) (result : Result (Option Fact) ReadFault) : Type 0 where
  pub same_limit : own ≡ limit
  pub read : ReadAt limit u v old F held
  pub gives : Gives journal_framing own old new v w result

read_from : {limit : ℕ} {u v : Option (List ℕ)} (w : Option (List ℕ)) {old : ReaderState Before}
    (new : ReaderState Before) {es : List Fact} (o : Option Fact) → Sofar journal_framing limit u v
    old es → Gives journal_framing limit old new v w (Ok o) → Read limit u w new es o
read_from w new (Some f) s g = side-from journal_sound w new (Some f) s g
read_from {limit} {u} w new {es} None s g =
    (whole_at _ u w es (side-from journal_sound w new None s g), g.ended)

-- after the end, the next call gives the end again
end_again : {limit : ℕ} {u v w : Option (List ℕ)} {new : ReaderState Before} {F : List Fact}
    {held : Option Fact} → ReadWhole limit u v F → held ≡ None → GivesEnd journal_framing Ended new
    v w → Read limit u w new (F ++ option_list held) None
end_again {u} {v} {w} {F} r n g =
    let k : Keeps v w = search rules in
    (rw (ap (λ h. F ++ option_list h) n ∙ append-nil F) (whole_kept _ u v w F r k), g.ended)

-- the next call reads one entry more, or the end
read_on : {limit : ℕ} {u v : Option (List ℕ)} (w : Option (List ℕ)) (old new : ReaderState Before)
    {F : List Fact} {held : Option Fact} (o : Option Fact) → IsCalled limit limit u v w old new F
    held (Ok o) → Read limit u w new (F ++ option_list held) o
read_on w (Failed f) new o c = absurd c.read
read_on w Ended new (Some f) c = absurd (let g = c.gives in cc)
read_on w Ended new None c = end_again c.read.0 c.read.1 c.gives
read_on w other new o c = read_from w _ o c.read c.gives

-- a journal has no entries but those that were read to its end
only_entries : (limit : ℕ) (u : Option (List ℕ)) (F K : List Fact)
    → IfSome u (λ xs. IsJournalWithin limit xs F) → IsJournalOfAll u K → K ≡ F
only_entries limit None F K h k = absurd cc
only_entries limit (Some xs) F K h k =
    let v = h.are_items.told in
    let w = k.version in
    let first : BeginsWithJournal v F [] xs = search rules in
    let second : BeginsWithJournal w K [] xs = search rules in
    (spelling-injective first second).1

-- within the limit a reader that is open may give one fact more

pub fewer : (limit n : ℕ) (v w : Option (List ℕ)) (old new : ReaderState Before) (o : Option Fact)
    → Gives journal_framing limit old new v w (Ok o)
    → (length (option_list o) + room limit new) + n ≤ n + room limit old
fewer x0 x1 x2 x3 x4 x5 x6 x7 = search rules

-- what a stream has given by these reads
pub record GivesOn (limit : ℕ) (u w : Option (List ℕ)) (state : ReaderState Before) (G : List Fact)
    (held : Option Fact) : Type 0 where
  pub read : ReadAt limit u w state G held
  pub reads : ReadsEntries u w G
  pub reads_held : ReadsEntries u w (G ++ option_list held)
  pub rising : IsRising (G ++ option_list held)
  pub sized : IfSome held IsSized
  pub ended : held ≡ None → IfSome u (λ bytes. IsJournalWithin limit bytes G)
  pub known : (K : List Fact) → IsJournalOfAll u K → Continues K (G ++ option_list held) held

-- as the stream's clauses say
gives : (limit : ℕ) (u w : Option (List ℕ)) (state : ReaderState Before) (F : List Fact)
    (o : Option Fact) → Read limit u w state F o → GivesOn limit u w state F o
gives limit u w state F (Some f) r = record {
  read = search rules;
  reads = reads-side limit u w state F (Some f) r;
  reads_held = reads-sofar _ u w _ _ r;
  rising = r.are_items.in_order;
  sized = fact_sized f (all_split _ F _ r.are_items.valid).1.0.0;
  ended = λ e. absurd cc;
  known = λ K k. let a = ahead-sofar _ u w _ _ r k.version K k.valid k.rising k.bytes_are in
      record { rest = a.0; is = a.1; rising = k.rising; ended = λ e. absurd cc };
}
gives limit u w state F None r = record {
  read = search rules;
  reads = r.0.read;
  reads_held = rw (append-nil F) r.0.read;
  rising = rw (append-nil F) r.0.are_items.in_order;
  sized = tt;
  ended = λ e. r.0.whole;
  known = λ K k. record {
    rest = [];
    is = only_entries _ u F K r.0.whole k ∙ sym (append-nil F) ∙ sym (append-nil _);
    rising = k.rising;
    ended = λ e. refl;
  };
}

-- a call with the limit that it was made with
with_limit : {limit own : ℕ} {u v w : Option (List ℕ)} {old new : ReaderState Before}
    {F : List Fact} {held : Option Fact} {result : Result (Option Fact) ReadFault} → IsCalled limit
    own u v w old new F held result → IsCalled limit limit u v w old new F held result
with_limit = search rules

-- the state after a call that gave an entry or the end
pub gives_on : {limit own : ℕ} {u v w : Option (List ℕ)} {old new : ReaderState Before}
    {F : List Fact} {held o : Option Fact} → IsCalled limit own u v w old new F held (Ok o)
    → GivesOn limit u w new (F ++ option_list held) o
gives_on {w} {old} {new} {o} c = gives _ _ w new _ o (read_on w old new o (with_limit c))

-- A call that stops at a fault.

-- what was read before the fault, which the journal has
pub record StopsOn (limit : ℕ) (u w : Option (List ℕ)) (old : ReaderState Before)
    (G : List Fact) (f : ReadFault) : Type 0 where
  pub reads : ReadsEntries u w G
  pub has_fault : HasFault journal_framing limit u f
  pub open_before : IsTrue (is_open old)

fault_at : {limit : ℕ} {u v w : Option (List ℕ)} (old : ReaderState Before)
    {new : ReaderState Before} {F : List Fact} {held : Option Fact} {f : ReadFault} → IsCalled limit
    limit u v w old new F held (Err f) → StopsOn limit u w old (F ++ option_list held) f
fault_at (Failed h) c = absurd c.read
fault_at Ended c = grind arith
fault_at other c = search (rules, reads-fault, sofar-fault, journal_sound)

pub stops_on : {limit own : ℕ} {u v w : Option (List ℕ)} {old new : ReaderState Before}
    {F : List Fact} {held : Option Fact} {f : ReadFault} → IsCalled limit own u v w old new F held
    (Err f) → StopsOn limit u w old (F ++ option_list held) f
stops_on {old} c = fault_at _ (with_limit c)

-- a call that gave an entry or the end had no failure
pub never : (b : Bool) (x y : ℕ) (o : Option Fact) → FailsIf {T = Option Fact} b x y (Ok o) → y ≡ x
never x0 x1 x2 x3 x4 = search rules

module _ {R : Type 0} (unread : R → Option (List ℕ)) (buffered : R → List ℕ) (failures : R → ℕ)
  where
    abbrev b : Behaviour (JournalState R)
    b = journal_behaviour unread buffered failures

    -- the failures of one source add up
    since : (s t u : JournalState R) (fault : Option LoadFault) → FailsSince unread buffered
        failures s t None → FailsSince unread buffered failures t u fault → FailsSince unread
        buffered failures s u fault
    since s t u fault h k = grind arith

    -- the reader of a stream that has given these facts since it was new was called again
    abbrev Called : JournalState R → JournalState R → JournalState R → List Fact
        → Result (Option Fact) ReadFault → Type 0
    Called start s t F result = IsCalled (limit_of start.reader) (limit_of s.reader)
        (unread_of unread buffered start) (unread_of unread buffered s)
        (unread_of unread buffered t) (state_of s.reader) (state_of t.reader) F (b.held s) result

    -- the reader of a stream was called, which still reads the same source
    pub record HoldsOn (s t : JournalState R) (result : Result (Unit {0}) ReadFault) : Type 0 where
      pub same_source : (source_of t.reader).ghost_name ≡ (source_of s.reader).ghost_name
      pub same_limit : limit_of t.reader ≡ limit_of s.reader
      pub holds :
          HoldsNext unread buffered failures (limit_of s.reader) (reading_of s) (reading_of t)
          result

    none_failed : {s t : JournalState R} → HoldsOn s t (Ok tt)
        → FailsSince unread buffered failures s t None
    none_failed = search rules

    -- the stream is advanced, or stops, as the trait's clauses say (specs/Streams)
    pub stream_goes_on : {s t : JournalState R} → HoldsOn s t (Ok tt) → GoesOn b s t
    stream_goes_on {s} {t} h = record {
      gave = λ start F p. let call : Called start s t F (Ok (b.held t)) = search rules in
          let r = gives_on call in
          let fails = since _ s t _ p.fails (none_failed h) in
          record {
            passes = search rules;
            reads = r.reads;
            reads_held = r.reads_held;
            fails = fails;
            rising = r.rising;
            sized = r.sized;
            spelled = h.holds.spelled;
            ended = r.ended;
            ends = r.ended;
            known = r.known;
          };
      fewer = search rules;
    }

    pub stream_stops : {s t : JournalState R} (f : ReadFault) → HoldsOn s t (Err f)
        → StopsAt b s t (load.Read f)
    stream_stops {s} {t} f h = λ start F p. let call : Called start s t F (Err f) = search rules in
        let r = stops_on call in
        record { reads = r.reads; fails = search rules; stops = r.has_fault }

-- the same reader and held entry are still lent
pub loans : {R : Type 0} (s t : LentStream R) → SameLoans s t → (start : LentStream R)
    → SameLoans start s → SameLoans start t
loans s t same start h = search rules
