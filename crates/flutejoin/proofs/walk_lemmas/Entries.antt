-- next_entry: what a call gave after the entries so far (specs/NextEntry).
use Rattle.std.proofs.Common.{◌≡◌, ℕ, List, [], ◌∷◌, ◌++◌, Option, Some, None, Result, Ok}
use Rattle.std.proofs.Common.{Err, refl, subst, sym, ap, ◌∙◌, arith}
use Rattle.std.specs.Prelude.{IfSome}
use Rattle.std.specs.Io.KnownBytes.{Consumes}
use Rattle.flute_parts.specs.Facts.{IsRising}
use Rattle.flute_parts.specs.Limits.{Over}
use Rattle.flute_parts.specs.Tally.{Counts}
use Rattle.flute_parts.specs.declared.fact.Fact.{Fact}
use Rattle.flute_parts.specs.declared.tally.Tally.{Tally}
use Rattle.flute_journal.specs.Framing.{Gives, is_open, Sofar}
use Rattle.flute_journal.specs.declared.format.version.Version.TheVariants.{Two}
use Rattle.flute_journal.specs.declared.readers.reader_state.ReaderState.TheVariants as ReaderState
use Rattle.flute_journal.specs.Input.{FailsIf}
use Rattle.flute_journal.specs.JournalFraming.{journal_framing}
use Rattle.flute_journal.specs.Readers.{limit_of, source_of, state_of}
use Rattle.flute_journal.specs.Format.{without_end_in}
use Rattle.flute_journal.specs.Frame.{AreItems}
use Rattle.flute_journal.specs.Journal.{journal_frame}
use Rattle.flute_journal.specs.Stores.{BeginsOver}
use Rattle.flutejoin.specs.Show.{FailsToRead}
use Rattle.flutejoin.specs.declared.command_fault.CommandFault.TheVariants.{Full, Input}
use Rattle.flutejoin.specs.declared.limits.TheConstants.{MAX_ENTRIES}
use Rattle.std.specs.Prelude.{IfSome}
use Rattle.flute_journal.specs.declared.fault.ReadFault.{ReadFault}
use Rattle.flute_journal.specs.declared.readers.journal_reader.JournalReader.{JournalReader}
use Rattle.flute_journal.proofs.Public.{journal_sound, open_after, read_some, side-from, sofar-next}
use Rattle.flute_journal.proofs.Public.{sofar-none, sofar-stops, whole-at}
use Rattle.flute_journal.proofs.Public.{left_all}
use Rattle.flute_journal.specs.HeldEntries.{fact_held, fact_of_held}
use Rattle.flute_journal.specs.declared.readers.held_entry.HeldEntry.TheVariants as held
use Rattle.flute_streams.specs.JournalStreams.{JournalState, reading_of, unread_of}
use Rattle.flute_streams.proofs.Public.{nothing_held}
use Rattle.flutejoin.proofs.Shown.{fails_same}
use Rattle.flutejoin.specs.NextEntry.{HasRead, HoldsOn, ReadsOn, holding}

begins-over : {s o y : ℕ} (u w : Option (List ℕ)) (F : List Fact) (f : Fact)
    → (a : AreItems journal_frame MAX_ENTRIES (F ++ f ∷ []))
    → Consumes u w (without_end_in a.told (F ++ f ∷ []))
    → Over (F ++ f ∷ []) s o y → IfSome u (BeginsOver s o y MAX_ENTRIES)
begins-over None w F f a h _ = tt
begins-over (Some x) None F f a h _ = absurd h
begins-over (Some x) (Some z) F f a h over =
    (F ++ f ∷ [], record { are_items = a; rest = z; whole = h }, over)

-- before the first entry
pub none_read : {R : Type 0} (unread : R → Option (List ℕ)) (buffered : R → List ℕ) {s o y : ℕ}
    {x : R} {reader : JournalReader R} {tally : Tally s o y} → (source_of reader).now ≡ x
    → limit_of reader ≡ MAX_ENTRIES → state_of reader ≡ ReaderState.Header → Counts s o y [] tally
    → HasRead unread buffered (unread x) [] (holding reader held.Nothing) tally
none_read unread _ {reader} now limit state c =
    let u = unread (source_of reader).now in
    record {
      sofar = rw (← ap unread now) (subst (λ w. Sofar journal_framing MAX_ENTRIES u w (state_of reader)
          []) (sym (left_all u))
          (subst (λ x. Sofar journal_framing MAX_ENTRIES u u x []) (sym state)
          (sofar-none journal_sound Two _ u)));
      counts = c;
      limit = limit;
    }

module _ {R : Type 0} {unread : R → Option (List ℕ)} {buffered : R → List ℕ} {s o y : ℕ}
    {u : Option (List ℕ)} {F : List Fact} {from : JournalState R}
    {tally : Tally s o y} (h : HasRead unread buffered u F from tally) where
  abbrev Gave : JournalState R → Result (Option Fact) ReadFault → Type 0
  Gave to r = Gives journal_framing (limit_of from.reader) (state_of from.reader)
      (state_of to.reader) (unread_of unread buffered from) (unread_of unread buffered to) r

  within_most : (to : JournalState R) (r : Result (Option Fact) ReadFault) → Gave to r
      → Gives journal_framing MAX_ENTRIES (state_of from.reader) (state_of to.reader)
      (unread_of unread buffered from) (unread_of unread buffered to) r
  within_most to r g = rw (← h.limit) g

  pub entry_read : (to : JournalState R) (next : Tally s o y) (f : Fact) → Gave to (Ok (Some f))
      → limit_of to.reader ≡ limit_of from.reader
      → ((F : List Fact) → IsRising (F ++ f ∷ []) → Counts s o y F tally
      → Counts s o y (F ++ f ∷ []) next) → HasRead unread buffered u (F ++ f ∷ []) to next
  entry_read to _ f g l c =
      let more = sofar-next journal_sound h.sofar (within_most to (Ok (Some f)) g) in
      record { sofar = more; counts = c F more.are_items.in_order h.counts; limit = l ∙ h.limit }

  pub entry_beyond : (to : JournalState R) (next : Tally s o y) (f : Fact) → Gave to (Ok (Some f))
      → ((F : List Fact) → IsRising (F ++ f ∷ []) → Counts s o y F tally
      → Over (F ++ f ∷ []) s o y) → ReadsOn unread buffered u F to next (Err Full)
  entry_beyond to _ f g over =
      let more = sofar-next journal_sound h.sofar (within_most to (Ok (Some f)) g) in
      let left = unread_of unread buffered to in
      begins-over u _ F f more.are_items
      (rw (read_some journal_framing more.are_items.told F f) at more.read)
      (over F more.are_items.in_order h.counts)

  pub end_read : (to : JournalState R) (next : Tally s o y) → fact_of_held buffered (reading_of to)
      ≡ None → Gave to (Ok None) → HoldsOn unread buffered u F to next None
  end_read to next none g =
      let v = unread (source_of to.reader).now in
      let all = nothing_held (buffered (source_of to.reader).now) to.held v none in
      let left = unread_of unread buffered to in
      let end = side-from journal_sound left (state_of to.reader) None h.sofar
      (within_most to (Ok None) g) in
      (whole-at journal_sound MAX_ENTRIES u left F end, rw (← all) end.at_end)

  pub fault_read : (to : JournalState R) (next : Tally s o y) (f : ReadFault) → to.held ≡
      held.Nothing → Gave to (Err f) → ReadsOn unread buffered u F to next (Err (Input 1 f))
  fault_read to _ f none g =
      let v = unread (source_of to.reader).now in
      let all =
      nothing_held (buffered (source_of to.reader).now) _ v (ap (fact_held _) none) in (
        refl,
        (
          F,
          h.counts.within,
          rw (← all) (sofar-stops h.sofar (within_most to (Err f) g)).0,
        ),
      )

  pub fails_now : (f : ReadFault) (n m : ℕ)
      → FailsIf {T = Option Fact} (is_open (state_of from.reader)) n m (Err f)
      → FailsToRead {T = Unit {0}} n m (Err (Input 1 f))
  fails_now f n m e =
      let opened = open_after _ u _ _ F h.sofar in
      fails_same (Option Fact) (Unit {0}) f n m (grind arith)
