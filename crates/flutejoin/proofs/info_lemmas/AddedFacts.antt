-- info: the join of a journal with facts in memory, and its faults (specs/Info).
use Rattle.std.proofs.Common.{rules}
use Rattle.std.proofs.Common.{◌≡◌, ℕ, zero, suc, ◌+◌, Bool, true, false, List, [], ◌∷◌, ◌++◌}
use Rattle.std.proofs.Common.{Option, Some, Result, Err, refl, subst}
use Rattle.std.proofs.Common.{append-nil}
use Rattle.std.specs.Prelude.{slice_get, IfErr, IfSome}
use Rattle.flute_parts.specs.declared.fact.Fact.{Fact}
use Rattle.flute_parts.specs.Facts.{Same}
use Rattle.flute_parts.proofs.Public.{Below-from_Same, Over-below, Same-append, Same-itself}
use Rattle.flute_parts.proofs.Public.{Same-sym}
use Rattle.flute_journal.specs.Journal.{IsJournalWithin}
use Rattle.flute_journal.specs.JournalWriters.{PutsJournal}
use Rattle.flute_journal.specs.Readers.{limit_of}
use Rattle.flute_streams.specs.Streams.{Behaviour}
use Rattle.flute_streams.specs.Eithers.{either_behaviour}
use Rattle.flute_streams.specs.FirstFaults.{FirstFault, IsStopOf}
use Rattle.flute_streams.specs.JournalStreams.{FailsBy, lent, lent_behaviour, unread_of}
use Rattle.flute_streams.specs.StreamMerges.{all_of, Each, IsWithinLimits, MergedAll}
use Rattle.flute_streams.specs.declared.streams.either.Either.{Either}
use Rattle.flute_streams.specs.declared.streams.either.Either.TheVariants.{First, Second}
use Rattle.flute_journal.specs.declared.fault.LoadFault.{LoadFault}
use Rattle.flute_journal.specs.declared.fault.LoadFault.TheVariants as load
use Rattle.flute_journal.specs.declared.fault.ReadFault.TheVariants as read
use Rattle.flute_streams.specs.declared.streams.lent_stream.LentStream.{LentStream}
use Rattle.flute_streams.specs.declared.merge.all_streams.MergedJournal.{MergedJournal}
use Rattle.flute_streams.specs.declared.merge.streams_fault.InputFault.{InputFault}
use Rattle.flutejoin.specs.declared.command_fault.CommandFault.{CommandFault}
use Rattle.flutejoin.specs.declared.command_fault.CommandFault.TheVariants.{Full, CannotWrite}
use Rattle.flutejoin.specs.declared.command_fault.CommandFault.TheVariants.{Input}
use Rattle.flutejoin.specs.declared.limits.TheConstants.{MAX_ENTRIES}
use Rattle.flutejoin.specs.Info.{AddsFacts, InfoFails}
use Rattle.flutejoin.specs.InfoLists.{TellsSame}
use Rattle.flutejoin.specs.Limits.{Limits}
use Rattle.flutejoin.specs.Show.{FailsToRead}
use Rattle.flutejoin.specs.Status.{of_load}

if_some : (o : Option (List ℕ)) (P Q : List ℕ → Type 0) → ((x : List ℕ) → P x → Q x) → IfSome o P
    → IfSome o Q
if_some = search rules

-- facts that are the same have one journal, and are within the limits together
puts_same : (cut : Bool) (old new : Option (List ℕ)) (F G : List Fact) (count : ℕ) → Same F G
    → PutsJournal cut old new F count → PutsJournal cut old new G count
puts_same cut old new F G count same p = record {
  bytes = p.bytes;
  journal = search rules;
  entries = p.entries;
  appended = p.appended;
}

abbrev IsWithin : Limits → List Fact → Bool → Type 0
IsWithin most F within = IsWithinLimits most.sessions most.objects most.symbols F within

within_same : (most : Limits) (F G : List Fact) (within : Bool) → Same F G
    → IsWithin most F within → IsWithin most G within
within_same most F G true same h = search (rules, Over-below, Below-from_Same, Same-sym) steps
    400000
within_same most F G false same h = search (rules, Over-below, Below-from_Same)

-- The stream of a journal that is lent, and one of facts.
module _ {R : Type 0} (unread : R → Option (List ℕ)) (buffered : R → List ℕ) (failures : R → ℕ)
    {S : Type 0} (b : Behaviour S) where
  abbrev journals : Behaviour (LentStream R)
  journals = lent_behaviour unread buffered failures

  abbrev both : Behaviour (Either (LentStream R) S)
  both = either_behaviour journals b

  module _ (j : LentStream R) (f : S) where
    abbrev bytes_of : Option (List ℕ)
    bytes_of = unread_of unread buffered (lent j)

    abbrev inputs : List (Either (LentStream R) S)
    inputs = First j ∷ Second f ∷ []

    module _ (facts : List Fact) (same : TellsSame b f facts)
        (limit : limit_of j.reader.now ≡ MAX_ENTRIES) where
      -- the entries of the journal, and those facts
      record Two (told : List (List Fact)) : Type 0 where
        pub entries : List Fact
        pub tells : IfSome bytes_of (λ bytes. IsJournalWithin MAX_ENTRIES bytes entries)
        pub all : Same (all_of told) (entries ++ facts)

      two : (told : List (List Fact)) → Each both.tells inputs told → Two told
      two [] h = absurd h
      two (F ∷ []) h = absurd h.1
      two (F ∷ G ∷ []) h = record {
        entries = F;
        tells = rw (← limit) h.0;
        all = Same-append F F _ _ (Same-itself F) (rw (append-nil G) (same G h.1.0));
      }
      two (F ∷ G ∷ H ∷ told) h = absurd h.1.1

      -- Both were joined.
      module _ {most : Limits} {joined : MergedJournal} {w w' : Option (List ℕ)}
          (m : MergedAll both inputs most.sessions most.objects most.symbols joined w w') where
        t : Two m.told
        t = two _ m.tell

        abbrev together : List Fact
        together = t.entries ++ facts

        in_limits : (within : Bool) → joined.within ≡ within → IsWithin most together within
        in_limits within e = search (rules, within_same, all_of)

        pub adds_facts : joined.cut ≡ false → AddsFacts bytes_of facts w w' joined.entries
        adds_facts whole =
            let writes = puts_same _ w _ _ _ _ t.all (rw (← whole) m.puts) in
            if_some bytes_of _ _ (λ bytes is. (t.entries, is, writes)) t.tells

        pub over_with : joined.within ≡ false → InfoFails most bytes_of facts Full
        over_with out =
            if_some bytes_of _ _ (λ bytes is. (t.entries, is, in_limits false out)) t.tells

        pub within_with : joined.within ≡ true → InfoFails most bytes_of facts CannotWrite
        within_with within =
            if_some bytes_of _ _ (λ bytes is. (t.entries, is, in_limits true within)) t.tells

    -- The first fault is that of the journal.
    module _ (goes_on : (fault : LoadFault) → b.stops f fault → ⊥) where
      stop_at : (number : ℕ) (fault : LoadFault) (s : Either (LentStream R) S) → slice_get inputs
          number ≡ Some s → both.stops s fault → (number ≡ 0) × journals.stops j fault
      stop_at zero fault s was h =
          let p : s ≡ First j = (let e = was in cc) in
          (refl, rw p at h)
      stop_at (suc zero) fault s was h =
          let p : s ≡ Second f = (let e = was in cc) in
          absurd (goes_on fault (rw p at h))
      stop_at (suc (suc number)) fault s was h = absurd (let e = was in cc)

      journal_stops : (most : Limits) (facts : List Fact) (fault : LoadFault)
          → limit_of j.reader.now ≡ MAX_ENTRIES → journals.stops j fault
          → InfoFails most bytes_of facts (of_load 1 fault)
      journal_stops most facts (load.Read r) limit h = search rules
      journal_stops _ _ load.Full _ h = absurd h
      journal_stops _ _ load.OutOfMemory _ h = absurd h

      pub first_fails : (most : Limits) (facts : List Fact) {after : List (Either (LentStream R) S)}
          {first : InputFault} → limit_of j.reader.now ≡ MAX_ENTRIES → FirstFault both inputs after
          first → InfoFails most bytes_of facts (of_load (first.number + 1) first.fault)
      first_fails most facts {first} limit h = search (rules, stop_at, journal_stops) steps 400000

      -- its source failed as the fault says, and it is lent as before
      module _ (j' : LentStream R) (f' : S) where
        abbrev new : List (Either (LentStream R) S)
        new = First j' ∷ Second f' ∷ []

        failed_at : (number : ℕ) (fault : LoadFault) (s : Either (LentStream R) S)
            → slice_get inputs number ≡ Some s → IsStopOf both s number new fault
            → journals.fails j j' (Some fault)
        failed_at zero fault s was h =
            let p : s ≡ First j = (let e = was in cc) in
            let q : h.stream ≡ First j' = (let e = h.is in cc) in
            rw q at (subst (λ z. both.fails z h.stream (Some fault)) p h.fails)
        failed_at (suc zero) fault s was h =
            let p : s ≡ Second f = (let e = was in cc) in
            absurd (goes_on fault (rw p at h.stops))
        failed_at (suc (suc number)) fault s was h = absurd (let e = was in cc)

        pub failed_as : {first : InputFault} → FirstFault both inputs new first
            → journals.fails j j' (Some first.fault)
        failed_as {first} h = search (rules, failed_at)

-- how often the source failed that a fault of reading is of
pub load_failures : (number old new : ℕ) (fault : LoadFault) → FailsBy old new (Some fault)
    → FailsToRead {T = ℕ} old new (Err (of_load number fault))
load_failures _ _ _ (load.Read read.Read) h = h
load_failures _ _ _ (load.Read read.Magic) h = h
load_failures _ _ _ (load.Read read.Version) h = h
load_failures _ _ _ (load.Read read.Kind) h = h
load_failures _ _ _ (load.Read read.Key) h = h
load_failures _ _ _ (load.Read (read.Information why)) h = h
load_failures _ _ _ (load.Read read.EmptySymbol) h = h
load_failures _ _ _ (load.Read read.Order) h = h
load_failures _ _ _ (load.Read read.Count) h = h
load_failures _ _ _ (load.Read read.Cut) h = h
load_failures _ _ _ (load.Read read.TooMany) h = h
load_failures _ _ _ (load.Read read.Trailing) h = h
load_failures _ _ _ (load.Read read.OutOfMemory) h = h
load_failures _ _ _ load.Full h = h
load_failures _ _ _ load.OutOfMemory h = h

-- No fault of a journal is reported with the number 2.
pub never_second : (most : Limits) (r : Result ℕ CommandFault) (input : Option (List ℕ))
    (facts : List Fact) (Q : Type 0) → IfErr r (InfoFails most input facts)
    → IfErr r (λ fault. fault ≡ Input 2 read.Read → Q)
never_second = search rules

-- the same of the source that the journal is read of
pub of_source : {R : Type 0} (unread : R → Option (List ℕ)) (most : Limits) (source now : R)
    (facts : List Fact) (r : Result ℕ CommandFault) → now ≡ source
    → IfErr r (InfoFails most (unread now) facts) → IfErr r (InfoFails most (unread source) facts)
of_source unread most source now facts r e h = search rules
