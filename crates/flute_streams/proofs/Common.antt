-- Names that most proofs on streams cite, re-exported from one place.
use Rattle.std.proofs.Common.{rules}
use Rattle.std.proofs.Common.{arith}
pub use Rattle.std.proofs.Common.{Bool, Err, IfErr, IfSome, IsTrue, List, None, Ok, OnOk, Option}
pub use Rattle.std.proofs.Common.{Result, Some, [], add-one, ap, append-nil, append_assoc, arith}
pub use Rattle.std.proofs.Common.{bytes_eq, drop, drop-cons, drop-set-lt, eqb, false, flat_map}
pub use Rattle.std.proofs.Common.{get_or, if◌then◌else◌, inl, inr, is_eq, is_lt, is_some}
pub use Rattle.std.proofs.Common.{length, length-append, length-drop, length-set, length-take}
pub use Rattle.std.proofs.Common.{length-take-le, not, refl, rules, slice_get, slice_set, subst}
pub use Rattle.std.proofs.Common.{suc, sym, take, take-append-drop, take_all, true, zero, ℕ}
pub use Rattle.std.proofs.Common.{◌%◌, ◌&&◌, ◌*◌, ◌++◌, ◌+◌, ◌-◌, ◌/◌}
pub use Rattle.std.proofs.Common.{◌<◌, ◌^◌, ◌∙◌, ◌∷◌, ◌≡◌, ◌≢◌}
pub use Rattle.std.proofs.Common.{◌≤◌, ◌⊎◌}
pub use Rattle.flute_streams.specs.Advances.{AreNew, GoOnAt, GoesOnAt, StopAt, StopsIn}
pub use Rattle.flute_streams.specs.Eithers.{either_behaviour}
pub use Rattle.flute_streams.specs.declared.merge.all_streams.MergedJournal.{MergedJournal}
pub use Rattle.flute_streams.specs.declared.streams.either.Either.TheVariants.{First, Second}
pub use Rattle.flute_streams.specs.declared.streams.either.Either.{Either}
pub use Rattle.flute_journal.specs.declared.readers.entry_fields.Before.{Before}
pub use Rattle.flute_journal.specs.declared.fault.LoadFault.TheVariants.{Read}
pub use Rattle.flute_journal.specs.declared.fault.LoadFault.{LoadFault}
pub use Rattle.flute_journal.specs.declared.fault.ReadFault.{ReadFault}
pub use Rattle.flute_journal.specs.declared.format.version.Version.{Version}
pub use Rattle.flute_streams.specs.declared.streams.lent_stream.LentStream.{LentStream}
pub use Rattle.flute_journal.specs.declared.readers.reader_state.ReaderState.TheVariants.{Ended}
pub use Rattle.flute_journal.specs.declared.readers.reader_state.ReaderState.TheVariants.{Failed}
pub use Rattle.flute_journal.specs.declared.readers.reader_state.ReaderState.TheVariants.{Header}
pub use Rattle.flute_journal.specs.declared.readers.reader_state.ReaderState.TheVariants.{Items}
pub use Rattle.flute_journal.specs.declared.readers.reader_state.ReaderState.{ReaderState}
pub use Rattle.flute_streams.specs.declared.merge.streams_fault.InputFault.{InputFault}
pub use Rattle.flute_streams.specs.declared.merge.streams_fault.StreamsFault.TheVariants.{Input}
pub use Rattle.flute_streams.specs.declared.merge.streams_fault.StreamsFault.TheVariants.{Write}
pub use Rattle.flute_streams.specs.declared.merge.streams_fault.StreamsFault.{StreamsFault}
pub use Rattle.flute_journal.specs.Faults.{is_after}
pub use Rattle.flute_journal.specs.Format.{end, entry, header, spelling, spelling_in, without_end}
pub use Rattle.flute_journal.specs.Input.{FailsIf, or_failed}
pub use Rattle.flute_journal.specs.Framing.{Gives, GivesEnd, GivesFault, HasFault, Sofar, count_at}
pub use Rattle.flute_journal.specs.Framing.{is_open}
pub use Rattle.flute_journal.specs.Journal.{Collects, IsFactIn, IsJournalWithin, Journal, JournalIn}
pub use Rattle.flute_journal.specs.JournalFraming.{journal_framing, last_of}
pub use Rattle.flute_streams.specs.JournalStreams.{FailsBy, FailsSince, IsJournalOfAll, ReadAt}
pub use Rattle.flute_streams.specs.JournalStreams.{ReadWhole, SameLoans, journal_behaviour, lent}
pub use Rattle.flute_streams.specs.JournalStreams.{lent_behaviour, room, unread_of}
pub use Rattle.flute_journal.specs.JournalWriters.{PutsBytes, PutsJournal, WritesJournal, Written}
pub use Rattle.flute_streams.specs.Leads.{IsBelowNext, Leads, NoneBefore, StandsAt, lower_next}
pub use Rattle.flute_streams.specs.Leads.{lower_of}
pub use Rattle.flute_streams.specs.Lowest.{IsLowest, IsNotBefore, Lowest}
pub use Rattle.flute_journal.specs.Prefixes.{IsCutAfter, cut_end, cut_entry, cut_header}
pub use Rattle.flute_journal.specs.Prefixes.{ReadsEntries, written_up_to}
pub use Rattle.flute_streams.specs.Merges.{FirstFails, KeepsUp, MergeGives, Merged, NamesFault}
pub use Rattle.flute_streams.specs.Merges.{SecondFails, StopsShort}
pub use Rattle.flute_journal.specs.Readers.{limit_of, source_of, state_of}
pub use Rattle.flute_streams.specs.StreamMerges.{AppendsNoJournal, AppendsPartOf, BeginWith}
pub use Rattle.flute_streams.specs.StreamMerges.{CanGoOn, Each, EachSince, EndsMerged, FailAs}
pub use Rattle.flute_streams.specs.StreamMerges.{GaveBefore, IsCounted, IsWithinLimits, MergedAll}
pub use Rattle.flute_streams.specs.StreamMerges.{NamesInput, NoneFails, OneFails, ReadsAhead}
pub use Rattle.flute_streams.specs.StreamMerges.{all_of}
pub use Rattle.flute_streams.specs.Streams.{Advances, Behaviour, Continues, Gave, GoesOn, Stopped}
pub use Rattle.flute_streams.specs.Streams.{StopsAt, address_of, fact_in, heads, most_of}
pub use Rattle.flute_streams.specs.Streams.{option_list}
pub use Rattle.flute_parts.specs.Ranges.{IsFact}
pub use Rattle.flute_parts.proofs.Public.{alone, alone-at, alone-elsewhere, Below-from_Same}
pub use Rattle.flute_parts.proofs.Public.{fact_at-after, fact_at-append, fact_at-cons}
pub use Rattle.flute_parts.proofs.Public.{fact_at-elsewhere, fact_at-nil, joined, joined-apart}
pub use Rattle.flute_parts.proofs.Public.{joined-none, joined-same, Over-below, rising_unique}
pub use Rattle.flute_parts.proofs.Public.{Same-append, Same-itself, Same-sym, Same-trans}
pub use Rattle.flute_parts.specs.Addresses.{address, fact_of}
pub use Rattle.flute_parts.specs.Devices.{AppendsPart, times_failed}
pub use Rattle.flute_parts.specs.Equality.{address_itself, address_same, fact_same}
pub use Rattle.flute_parts.specs.Facts.{IsRising, Same, StandAfter, conflict_at, conflict_in}
pub use Rattle.flute_parts.specs.Facts.{fact_at, same_fact}
pub use Rattle.flute_parts.specs.Limits.{Over}
pub use Rattle.flute_parts.specs.Order.{address_cmp, same_address}
pub use Rattle.flute_parts.specs.Tally.{Counts}
pub use Rattle.flute_parts.specs.Totality.{address_total}
pub use Rattle.flute_parts.specs.declared.address.Address.{Address}
pub use Rattle.flute_parts.specs.declared.address.Part.{Part}
pub use Rattle.flute_parts.specs.declared.fact.Fact.{Fact}
pub use Rattle.flute_parts.specs.declared.fact.Fact.TheVariants.{Info, InfoConflict, Symbol}
pub use Rattle.flute_parts.specs.declared.fact.Fact.TheVariants.{SymbolConflict}
pub use Rattle.flute_parts.specs.declared.fact.FactRef.{FactRef}
pub use Rattle.flute_parts.specs.declared.key.Key.{Key}
pub use Rattle.flute_parts.specs.declared.tally.Tally.{Tally}
pub use Rattle.flute_parts.specs.declared.symbol_id.SymbolId.{SymbolId}
pub use Rattle.flute_store.specs.Walk.{IsSized, YieldsFact}
pub use Rattle.std.proofs.KnownBytes.{Appends-nil, Appends-trans, Consumes-kept}
pub use Rattle.std.proofs.Math.ListN.{set}
pub use Rattle.std.proofs.lemmas.Bool.{cases_Bool, cases_lt, eqb-false, eqb-true, false≢true}
pub use Rattle.std.proofs.lemmas.List.{take_more, take_more_set}
pub use Rattle.std.proofs.lemmas.Option.{get_or_from_slice_get, none-some, same_Some}
pub use Rattle.std.proofs.lemmas.Option.{slice_get_within}
pub use Rattle.std.specs.Prelude.{option_copied}
pub use Rattle.std.proofs.lemmas.Result.{err_from_is_err_and}
pub use Rattle.std.specs.Io.KnownBytes.{Appends, Keeps}
pub use Rattle.std.specs.List.{AllByRecursion}
pub use Rattle.std.specs.declared.cmp.Ordering.{Ordering}
pub use Rattle.std.specs.declared.cmp.Ordering.TheVariants.{Equal, Greater, Less}
