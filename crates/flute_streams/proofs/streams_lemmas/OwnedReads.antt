-- OwnedJournalStream: reading on in a journal advances the stream.
use Rattle.std.proofs.Common.{rules}
use Rattle.flute_streams.proofs.Common.{◌≡◌, ℕ, List, Option, Ok, Err}
use Rattle.flute_streams.proofs.Common.{Result}
use Rattle.flute_streams.proofs.Common.{Fact, ReadFault}
use Rattle.flute_streams.proofs.Common.{Behaviour}
use Rattle.flute_streams.proofs.Common.{GoesOn, StopsAt}
use Rattle.flute_streams.proofs.streams_lemmas.JournalReads.{IsCalled, gives_on, stops_on}
use Rattle.flute_journal.specs.declared.fault.LoadFault.TheVariants as load
use Rattle.flute_streams.specs.declared.streams.owned_journal_stream.OwnedJournalStream.{OwnedJournalStream}
use Rattle.flute_journal.specs.HeldEntries.{HoldsNext}
use Rattle.flute_streams.specs.OwnedStreams.{left_in, owned_behaviour, reading_in}

module _ {R : Type 0} (unread : R → Option (List ℕ)) (buffered : R → List ℕ) (failures : R → ℕ)
    (s t : OwnedJournalStream R) where
  abbrev b : Behaviour (OwnedJournalStream R)
  b = owned_behaviour unread buffered failures

  abbrev left : OwnedJournalStream R → Option (List ℕ)
  left = left_in unread buffered

  -- the reader of a stream that has given these facts since it was new was called again
  abbrev Called : OwnedJournalStream R → List Fact → Result (Option Fact) ReadFault → Type 0
  Called start F result = IsCalled start.max_entries s.max_entries (left start) (left s) (left t)
      s.state t.state F (b.held s) result

  abbrev Holds : Result (Unit {0}) ReadFault → Type 0
  Holds result =
      HoldsNext unread buffered failures s.max_entries (reading_in s) (reading_in t) result

  pub owned_goes_on : t.max_entries ≡ s.max_entries → Holds (Ok tt) → GoesOn b s t
  owned_goes_on limit h = record {
    gave = λ start F p. let call : Called start F (Ok (b.held t)) = search rules in
        let r = gives_on call in
        let fails : failures t.source ≡ failures start.source = search rules in
        record {
          passes = search rules;
          reads = r.reads;
          reads_held = r.reads_held;
          fails = fails;
          rising = r.rising;
          sized = r.sized;
          spelled = h.spelled;
          ended = r.ended;
          ends = r.ended;
          known = r.known;
        };
    fewer = search rules;
  }

  pub owned_stops : (f : ReadFault) → Holds (Err f) → StopsAt b s t (load.Read f)
  owned_stops f h = λ start F p. let call : Called start F (Err f) = search rules in
      let r = stops_on call in
      record { reads = r.reads; fails = search rules; stops = r.has_fault }
