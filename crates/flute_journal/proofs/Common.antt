-- Names that most proofs on journals cite, re-exported from one place, and one of their own.
use Rattle.std.proofs.Common.{rules}
use Rattle.std.proofs.Common.{arith}
pub use Rattle.std.proofs.Common.{Bool, Err, IfErr, IfSome, IsTrue, List, MatchBool, None, Ok}
pub use Rattle.std.proofs.Common.{Option, Result, Some, [], ap, append-nil, append_assoc, arith}
pub use Rattle.std.proofs.Common.{bytes_eq, drop, drop-cons, drop-drop, drop_at, eqb, false}
pub use Rattle.std.proofs.Common.{flat_map, get_or, if◌then◌else◌, inl, inr, is_eq, is_lt}
pub use Rattle.std.proofs.Common.{le_refl, leb, length, length-append, length-drop, length-take}
pub use Rattle.std.proofs.Common.{length-take-le, lit<, ltb, not, refl, rules, slice_get}
pub use Rattle.std.proofs.Common.{slice_range, subst, suc, sym, take, take-append-drop, take_all}
pub use Rattle.std.proofs.Common.{take_at, true, zero, ℕ, ◌%◌, ◌&&◌, ◌*◌, ◌++◌}
pub use Rattle.std.proofs.Common.{◌+◌, ◌-◌, ◌/◌, ◌<◌, ◌^◌, ◌∙◌, ◌∷◌}
pub use Rattle.std.proofs.Common.{◌≡◌, ◌≢◌, ◌≤◌, ◌⊎◌}
pub use Rattle.flute_journal.specs.declared.readers.entry_fields.Before.{Before}
pub use Rattle.flute_journal.specs.declared.fault.LoadFault.TheVariants.{Read}
pub use Rattle.flute_journal.specs.declared.fault.ReadFault.{ReadFault}
pub use Rattle.flute_journal.specs.declared.format.EntryHead.{EntryHead}
pub use Rattle.flute_journal.specs.declared.format.Kind.{Kind}
pub use Rattle.flute_journal.specs.declared.format.version.Version.TheVariants.{One, Two}
pub use Rattle.flute_journal.specs.declared.format.version.Version.{Version}
pub use Rattle.flute_journal.specs.declared.readers.reader_state.ReaderState.TheVariants.{Failed}
pub use Rattle.flute_journal.specs.declared.readers.reader_state.ReaderState.TheVariants.{Header}
pub use Rattle.flute_journal.specs.declared.readers.reader_state.ReaderState.TheVariants.{Items}
pub use Rattle.flute_journal.specs.declared.readers.reader_state.ReaderState.{ReaderState}
pub use Rattle.flute_journal.specs.Faults.{Check, bytes_checks, cut, end_checks, entry_checks}
pub use Rattle.flute_journal.specs.Faults.{first_fault, header_fault, id_checks, id_in, in_order}
pub use Rattle.flute_journal.specs.Faults.{info_checks, info_in, is_after, is_key, is_kind, is_name}
pub use Rattle.flute_journal.specs.Faults.{is_object, is_version, key_in, key_size, named_in}
pub use Rattle.flute_journal.specs.Faults.{next_fault, object_in, opening_fault, rest_checks}
pub use Rattle.flute_journal.specs.Faults.{version_fault, version_in}
pub use Rattle.flute_journal.specs.Format.{body, counted_bytes, end, entry, entry_in, fact_key}
pub use Rattle.flute_journal.specs.Format.{header, header_in, id_bytes, info_bytes, key_bytes, kind}
pub use Rattle.flute_journal.specs.Format.{magic, name_bytes, object_bytes, rest_bytes}
pub use Rattle.flute_journal.specs.Format.{sender_bytes, sender_size, spelling, spelling_in}
pub use Rattle.flute_journal.specs.Format.{version_bytes, without_end, without_end_in}
pub use Rattle.flute_journal.specs.Input.{AsksMemory, Fails, FailsIf, IsFaultOf, IsFaultUpTo}
pub use Rattle.flute_journal.specs.Input.{IsSettled, IsWithin, Reads, ReadsUpTo, StaysWithin}
pub use Rattle.flute_journal.specs.Input.{left_by, or_failed}
pub use Rattle.flute_journal.specs.Framing.{Framing, Gives, GivesFault, GivesItem, IsPart}
pub use Rattle.flute_journal.specs.Framing.{ReadsFrom, ReadsNext, Sofar, Stops, after_items}
pub use Rattle.flute_journal.specs.Framing.{count_at, end_bytes, fault_from, in_header, in_item}
pub use Rattle.flute_journal.specs.Framing.{in_opening, is_open, place_at, read_of, state_after}
pub use Rattle.flute_journal.specs.Framing.{state_at}
pub use Rattle.flute_journal.specs.Frame.{AreItems, IsWhole, up_to_end}
pub use Rattle.flute_journal.specs.Journal.{Collects, HasRoom, IsFactIn, IsJournal, IsKeyIn}
pub use Rattle.flute_journal.specs.Journal.{Journal, JournalIn, journal_frame}
pub use Rattle.flute_journal.specs.JournalFraming.{before, journal_framing, last_of}
pub use Rattle.flute_journal.specs.JournalWriters.{PutsBytes, Written}
pub use Rattle.flute_journal.specs.Prefixes.{EndsAfter, ReadsEntries, written_up_to}
pub use Rattle.flute_journal.specs.Numbers.{in_bytes, number_at}
pub use Rattle.flute_journal.specs.Parsing.{BodyIn, HeadIn, HeadIs, IsBody, IsOfBytes, Parses}
pub use Rattle.flute_journal.specs.Parsing.{ReadsEnd, RestIs, StopsReading, SymbolIs, body_fault}
pub use Rattle.flute_journal.specs.Parsing.{byte_of, bytes_fault, cut_fault, end_fault, head_bytes}
pub use Rattle.flute_journal.specs.Parsing.{head_size, rest_fault, rest_size}
pub use Rattle.flute_journal.specs.Records.{IsDatagram, IsFileOf, IsFileWithin, file_frame}
pub use Rattle.flute_journal.specs.Records.{file_header, record_of}
pub use Rattle.flute_journal.specs.FileFraming.{IsFileFault, file_framing, record_checks}
pub use Rattle.flute_journal.specs.FileFraming.{record_fault}
pub use Rattle.flute_journal.specs.Stores.{BeginsOver, FailsToLoad, IsJournalOf, IsLoadFault}
pub use Rattle.flute_journal.specs.Stores.{ReadsNoMore, refused}
pub use Rattle.flute_journal.specs.Whole.{ReadsPart, StopsAfter}
pub use Rattle.flute_parts.specs.Ranges.{IsByte, IsFact, IsId, IsInfo, IsKey, IsSymbol}
pub use Rattle.flute_parts.proofs.Public.{AppendsPart-first, AppendsPart-second, Below-from_Same}
pub use Rattle.flute_parts.proofs.Public.{fact_at-append, fact_at-elsewhere, fact_at-here}
pub use Rattle.flute_parts.proofs.Public.{fact_at-nil, joined, joined-assoc, joined-comm}
pub use Rattle.flute_parts.proofs.Public.{joined-none, Over-below, rising_unique, Same-append}
pub use Rattle.flute_parts.proofs.Public.{Same-itself, Same-sym, Same-trans, Same-twice}
pub use Rattle.flute_parts.proofs.Public.{StandAfter-before, Writes-behind}
pub use Rattle.flute_parts.specs.Addresses.{address, info_address, symbol_address}
pub use Rattle.flute_parts.specs.BigEndian.{big_endian}
pub use Rattle.flute_parts.specs.Devices.{AppendsPart, times_failed}
pub use Rattle.flute_parts.specs.Equality.{address_same}
pub use Rattle.flute_parts.specs.Facts.{Below, IsRising, Same, StandAfter, fact_at}
pub use Rattle.flute_parts.specs.Information.{Information, info_fault}
pub use Rattle.flute_parts.specs.Limits.{Over, more_objects, more_sessions, more_symbols}
pub use Rattle.flute_parts.specs.ObjectName.{IsObjectName, instance_of, toi_of}
pub use Rattle.flute_parts.specs.Order.{address_cmp, same_address}
pub use Rattle.flute_parts.specs.Session.{session}
pub use Rattle.flute_parts.specs.Totality.{address_total}
pub use Rattle.flute_parts.specs.declared.address.Address.{Address}
pub use Rattle.flute_parts.specs.declared.fact.Fact.{Fact}
pub use Rattle.flute_parts.specs.declared.fact.Fact.TheVariants.{Info, InfoConflict, Symbol}
pub use Rattle.flute_parts.specs.declared.fact.Fact.TheVariants.{SymbolConflict}
pub use Rattle.flute_parts.specs.declared.info.InfoFault.{InfoFault}
pub use Rattle.flute_parts.specs.declared.key.Key.{Key}
pub use Rattle.flute_parts.specs.declared.object_key.ObjectName.{ObjectName}
pub use Rattle.flute_parts.specs.declared.object_key.ObjectName.TheVariants.{File, Instance}
pub use Rattle.flute_parts.specs.declared.symbol_id.SymbolId.{SymbolId}
pub use Rattle.flute_store.specs.Walk.{IsSized}
pub use Rattle.byteorder.specs.Numbers.{length-bytes_high_first}
pub use Rattle.flute_wire.proofs.Public.{big_from-whole}
pub use Rattle.std.proofs.KnownBytes.{Appends-nil, Appends-trans, Consumes-nil, Consumes-trans}
pub use Rattle.std.proofs.KnownBytes.{Consumes-whole}
pub use Rattle.std.proofs.Math.Nat.{add-mul, div-eq_of_lt, div-one, mod-eq_of_lt, mul-add-div_right}
pub use Rattle.std.proofs.Math.Nat.{mul-add-mod_self_right, mul-le-mul_right, mul_assoc, one-le-pow}
pub use Rattle.std.proofs.Math.Nat.{pow-le-pow_right, pow-succ'}
pub use Rattle.std.proofs.lemmas.Bool.{cases_Bool, cases_lt, eq-eqb, eqb-false, eqb-true}
pub use Rattle.std.proofs.lemmas.Bool.{false≢true, le-leb, le-ltb, leb-false, leb-true, lt-leb}
pub use Rattle.std.proofs.lemmas.Bool.{lt-ltb, ltb-false, ltb-true, ne_eqb}
pub use Rattle.std.proofs.lemmas.Grind.{flat_map-append}
pub use Rattle.std.proofs.lemmas.List.{flat_map_more, nil_from_length}
pub use Rattle.std.proofs.lemmas.Option.{get_or_from_slice_get, none-some, same_Some}
pub use Rattle.std.proofs.lemmas.Option.{slice_get_within}
pub use Rattle.std.proofs.lemmas.Result.{err_from_is_err_and}
pub use Rattle.std.proofs.lemmas.Slice.Eq.{bytes_eq-Decides}
pub use Rattle.std.specs.Io.KnownBytes.{Appends, Consumes, IsAtEnd}
pub use Rattle.std.specs.List.{AllByRecursion, IsSplitAt}
pub use Rattle.std.specs.declared.cmp.Ordering.{Ordering}
pub use Rattle.std.specs.declared.cmp.Ordering.TheVariants.{Equal, Greater, Less}

abbrev pub at_place : Version → ℕ → Option Address → Before
at_place version count last = record { version = version; count = count; last = last }
