-- Names that most proofs here cite, re-exported from one place. Declares nothing.
use Rattle.std.proofs.lemmas as Lemmas
use Rattle.std.specs as Std
use Rattle.flute_join.specs as Join
use Rattle.flute_parts.specs as Parts
use Rattle.flute_wire.specs as Wire
use Rattle.flute_store.specs as Store
pub use Lemmas.Bool.{cases_Bool, eq-eqb, eqb-false, eqb-true, false≢true, ltb-true, ne_eqb}
pub use Lemmas.List.Elements.{Contains-append_cases, Contains-append_left, Contains-append_right}
pub use Lemmas.Result.{IfErr-at_err, err_from_is_err_and, on_err_weaker, on_ok_weaker}
pub use Lemmas.{Bool.Decides.{nat_tests}, Map.Keys.{sorted_tail}, Map.Steps.{set_value_same}}
pub use Lemmas.{Bool.{or_cases}, Cmp.{tied_itself}}
pub use Lemmas.{Map.Entries.{length-keys_of}, Option.{none-some, same_Some, slice_get-get_or}}
pub use Std.List.{AllByRecursion, AllZip, cons_option, enumerate_from, range_with_len}
pub use Std.Ordering.{is_eq, match_ordering, nat_cmp, ordering_reverse, ordering_then}
pub use Std.Prelude.{Contains, IfSome, IsSome, MatchOption, filter, filter_map, flat_map, is_some}
pub use Std.declared.cmp.Ordering.{Ordering, TheVariants.{Equal, Greater, Less}}
pub use Std.{BTreeMap.{is_at}, Borrow.{Bor}, Cmp.{Equal-is, IsTotalOrder}, Map.{keys_of, set_value}}
pub use Std.{Option.{ForSome, option_copied, option_map_or}, Prelude.{not, option_map, ◌==◌}}
unfoldable pub use Std.List.Sorted.{IsStrictlySortedBy}
pub use Rattle.flute_join.proofs.Public.{absent_past, added_joins, below_join, below_self}
pub use Rattle.flute_join.proofs.Public.{each-insert_entry, each-set_value, each-value_at}
pub use Rattle.flute_join.proofs.Public.{EachValue-map_join, length_new, ok_is_not_err}
pub use Rattle.flute_join.proofs.Public.{ordered-map_join, single_held, single_new, some_above}
pub use Rattle.flute_join.proofs.Public.{value_at-map_join}
pub use Join.JoinMap.{EachValue, IsOrdered, IsSound, MapNeedsMemory, MapOver, join_values, map_join}
pub use Join.declared.refusal.JoinRefusal.{JoinRefusal, TheVariants.{Full, OutOfMemory}}
pub use Join.{Cell.{CellNeedsMemory, IsKnown, cell_join, one_value}, declared.cell.Cell.{Cell}}
pub use Join.{JoinMap.{value_at}, MapLaws.{join_nothing, map_join_laws, nothing_join}}
pub use Join.{Semilattice.{IsBelow, IsJoin}, declared.cell.Cell.TheVariants.{Absent, Conflict, One}}
pub use Rattle.flute_parts.proofs.Public.{Below-from_Same, Below-trans, Contains-from, Distinct}
pub use Rattle.flute_parts.proofs.Public.{Distinct-firsts, fact_at-append, fact_at-elsewhere}
pub use Rattle.flute_parts.proofs.Public.{fact_at-here, fact_at-member_some, fact_at-nil}
pub use Rattle.flute_parts.proofs.Public.{fact_at-some_named, has, has-firsts, joined}
pub use Rattle.flute_parts.proofs.Public.{joined-conflict_left, joined-conflict_right}
pub use Rattle.flute_parts.proofs.Public.{joined-itself, joined-none, length-Distinct, Member-from}
pub use Rattle.flute_parts.proofs.Public.{named-member, named-names, object_tells, Over-below}
pub use Rattle.flute_parts.proofs.Public.{Same-sym, session_tells, symbol_id_tells, Tells}
unfoldable pub use Rattle.flute_parts.proofs.Public.{joined_fact, Member}
pub use Parts.Equality.{address_itself, address_same, both, eqb_itself, key_itself, key_same}
pub use Parts.Equality.{object_place, session_itself, session_place, symbol_id_itself}
pub use Parts.Facts.{Below, IsRising, Same, SameMembers, StandAfter, agreed, conflict_at, same_fact}
pub use Parts.Limits.{Over, firsts, more_objects, more_sessions, more_symbols, named, object_of}
pub use Parts.Order.{address_cmp, key_cmp, object_cmp, part_cmp, same_address, same_key}
pub use Parts.Order.{same_object, same_session, same_symbol_id, session_cmp, symbol_id_cmp}
pub use Parts.declared.address.Part.{Part, TheVariants.{Info as InfoPart, Symbol as SymbolPart}}
pub use Parts.declared.fact.Fact.{Fact, TheVariants.{Info, InfoConflict, Symbol, SymbolConflict}}
pub use Parts.declared.{address.Address.{Address}, key.Key.{Key}}
pub use Parts.declared.{object_key.ObjectName.{ObjectName}, symbol_id.SymbolId.{SymbolId}}
pub use Parts.{Addresses.{address, info_address, symbol_address}, Limits.{session_of, symbol_of}}
pub use Parts.{Equality.{symbol_id_place}, Information.{Information, IsValid, sizes, symbol_count}}
pub use Parts.{Facts.{same_information}, Totality.{object_total, session_total, symbol_id_total}}
pub use Parts.{Partition.{block_ids, fits_at, last_length, place, symbol_id}, Session.{Session}}
unfoldable pub use Parts.Facts.{fact_at}
unfoldable pub use Parts.{Limits.{objects, sessions, symbols}, Partition.{fits, ids}}
pub use Wire.Reading.{facts}
pub use Store.Content.{cell_facts, content, info_cell_facts, key_in, object_facts, session_facts}
pub use Store.HeldScan.{IsHeldScan, KeepsGaps, Turns, bound, counted, last_tick, walk_in, with_end}
pub use Store.ObjectJoin.{ObjectNeedsMemory, ObjectOver, cells, object_join, object_join_laws}
pub use Store.ObjectJoin.{session_join, session_laws, store_join, symbol_maps, symbols_join}
pub use Store.Objects.{IsApart, IsHeld, Whole, before, gaps, goes_on, listed, one, same_reason}
pub use Store.PartitionScan.{EndsBefore, GivesGap, IsAhead, IsBehind, IsPlace, IsWalk, Keeps}
pub use Store.PartitionScan.{ShowsNext, TurnsTo, Walk, after_begin, after_block, after_missing}
pub use Store.PartitionScan.{after_pass, after_take, after_want, after_wanted, all_left, at_start}
pub use Store.PartitionScan.{ended_run, gaps_left, held_after, length_of, missing_gap, pending}
pub use Store.PartitionScan.{remaining, run_with, symbols_left, turn_after, turn_on, until_at}
pub use Store.PartitionScan.{until_held, until_next, until_of, upcoming_held, upcoming_next}
pub use Store.Scan.{CanCome, CanFollow, ComeNext, Follows, GaveAll, GaveGap, IsFirstPart, PartOf}
pub use Store.Scan.{PassedNext, Scanned, Turned, at_begin, coming_fact, next_fact, value_of}
pub use Store.Scans.{BeginsBlocks, ComesAs, CountsWithin, FitsSoFar, IsScan, Next, ScanState, Scans}
pub use Store.Scans.{Stepped, Walks, announced, held_next, one_run, passed_at_end, run_length}
pub use Store.Shown.{shown_by}
pub use Store.Status.{Adds, AddsTurn, CanAdd, IsCount, IsPartial, TellsStatus, status_of}
pub use Store.Update.{IsHeldSession, IsUpdate, update_cell, update_facts, update_object}
pub use Store.declared.gap.Reason.{Reason, TheVariants.{Conflicting, Misfit, Missing}}
pub use Store.declared.partition_scan.Upcoming.TheVariants.{BlockEnd, End, Fitting, NotHeld, Passed}
pub use Store.declared.partition_scan.{PartitionScan.{PartitionScan}, Upcoming.TheVariants.{Wanted}}
pub use Store.declared.update.SymbolUpdate.TheVariants.{Conflict as ConflictUpdate}
pub use Store.declared.update.SymbolUpdate.{SymbolUpdate, TheVariants.{Bytes as BytesUpdate}}
pub use Store.declared.{partition_scan.Upcoming.{Upcoming}, status.Wanted.{Wanted as Counted}}
pub use Store.{Beyond.{AnyValue, ObjectBeyond, SessionBeyond, StoreBeyond}, Update.{update_symbols}}
pub use Store.{BytesLeft.{GivesFirst, KeepsBytes, cell_bytes, found_bytes}, declared.gap.Gap.{Gap}}
pub use Store.{Content.{symbol_cell_facts, symbols_facts}, declared.turn.Turn.{Turn}}
pub use Store.{Extract.{IsNotWhole, WritesPart, WritesWhole}, declared.update.Update.{Update}}
pub use Store.{Found.{IsTold, IsUnheard, cell_fact, symbol_fact}, declared.object.Object.{Object}}
pub use Store.{Held.{HasCell, HoldsObject}, PartitionScan.{upcoming_wanted, walk_of, want_length}}
pub use Store.{Objects.{value_bytes, want}, WellFormed.{AreSymbols, IsObject, IsSession, IsStore}}
pub use Store.{Wanted.{block_from, want_cell, with_reason}, declared.held_scan.HeldScan.{HeldScan}}
unfoldable pub use Store.PartitionScan.{left, turn_of, upcoming_at, upcoming_of}
unfoldable pub use Store.{BytesLeft.{bytes_left, held_bytes}, Shown.{shown}, Status.{how_many}}
unfoldable pub use Store.{Objects.{AreRuns, object, runs, wants}, Wanted.{blocks_from, wanted}}
