-- merge_into: each exit follows by a lemma on the state of the merge before it.
use Rattle.std.proofs.Common.{rules}
use Rattle.flute_streams.proofs.Common.{◌≡◌, ◌≢◌, ◌⊎◌, ◌+◌, ℕ, Bool, []}
use Rattle.flute_streams.proofs.Common.{true, false, ap, arith}
use Rattle.flute_streams.proofs.Common.{option_copied, ◌∙◌}
use Rattle.flute_streams.proofs.Common.{header, entry, end, IsCounted}
use Rattle.flute_journal.proofs.Public.{puts-part, left_out}
use Rattle.flute_streams.proofs.merge_lemmas.Finished.{cut_journal}
use Rattle.flute_streams.proofs.merge_lemmas.Places.{at_lowest, none-new, placed, stands-within}
use Rattle.flute_streams.proofs.merge_lemmas.Places.{written_at}
use Rattle.flute_streams.proofs.merge_lemmas.StreamStates.{stop_first, stop_header, state_turn}
use Rattle.flute_streams.proofs.merge_lemmas.StreamStates.{turn-falls, sized-lowest, few-joined}
use Rattle.flute_streams.proofs.merge_lemmas.StreamStates.{no_failure, stop_entry, stop_input}
use Rattle.flute_streams.proofs.merge_lemmas.StreamStates.{stop_end, finished, spelled_now}
use Rattle.flute_streams.proofs.merge_lemmas.StreamStates.{State, counted, over_more}
use Rattle.flute_streams.proofs.merge.all_streams.merge_into.Given.{Over}
use Rattle.flute_streams.proofs.merge.all_streams.merge_into.Goals.{then-within, else-within}
use Rattle.flute_streams.proofs.merge.all_streams.merge_into.Goals as goal

-- a merge that is not patient goes on only if its sink has not failed
goes_on : {failed patient : Bool} → ((failed ≡ true) × (patient ≡ true)) ⊎ (failed ≡ false) →
    patient ≡ false → failed ≡ false
goes_on h e = search rules

pub advance_at-requires : goal.advance_at-requires
advance_at-requires g c = search (rules, none-new)

pub address-requires : goal.address-requires
address-requires g c = stands-within g.G.Streams.behaviour
    (g.G.Streams.streams c.loop-lowest.streams) c.in-Some.lowest c.in-Some.ensures.stands

-- an input stopped before the header was written
pub returns-in-Err : goal.returns-in-Err
returns-in-Err g c =
    let s = stop_first g.G.Streams.behaviour c.args.patient (g.G.Streams.streams c.args.streams.now)
    (g.G.Streams.streams c.advance_at.new.streams) (g.W.Sink.written c.args.writer.now.sink.now)
    c.in-Err.fault c.requires.new c.in-Err.ensures.stops in record {
      merged = tt;
      told = tt;
      told_all = tt;
      over = tt;
      cut = tt;
      ended = tt;
      short = s.0.short;
      reads_ahead = s.0.reads_ahead;
      eager = search rules;
      patience = search rules;
      fault = s.0.names;
      can_go_on = s.0.can_go_on;
      failures = s.1;
      sink_failures = search rules;
      same_sink = search rules;
      names = search rules;
    }

-- the header could not be written
pub returns-then-not-patient : goal.returns-then-not-patient
returns-then-not-patient g c =
    let s = stop_header g.G.Streams.behaviour c.args.patient
    (g.G.Streams.streams c.args.streams.now) (g.G.Streams.streams c.advance_at.new.streams)
    c.requires.new c.in_default.ensures.go_on
    (puts-part _ _ _ _ header c.requires.good c.if-writer.true c.header.ensures.puts) in record {
      merged = tt;
      told = tt;
      told_all = tt;
      over = tt;
      cut = tt;
      ended = tt;
      short = s.0.short;
      reads_ahead = s.0.reads_ahead;
      eager = search rules;
      patience = search rules;
      fault = s.0.names;
      can_go_on = s.0.can_go_on;
      failures = s.1;
      sink_failures = search rules;
      same_sink = search rules;
      names = search rules;
    }

pub lowest-requires-clause-spelled : goal.lowest-requires-clause-spelled
lowest-requires-clause-spelled g c = search (rules, spelled_now)

pub write_lowest-requires-clause-spelled : goal.write_lowest-requires-clause-spelled
write_lowest-requires-clause-spelled g c = search (rules, spelled_now)

pub write_lowest-requires-clause-sized : goal.write_lowest-requires-clause-sized
write_lowest-requires-clause-sized g c =
    let v = at_lowest g.G.Streams.behaviour (g.G.Streams.streams c.loop-lowest.streams)
    c.in-Some.ensures.stands c.in-Some.ensures.lowest in
    rw v.value.is (sized-lowest _ c.loop-lowest.invariant.state v.lowest)

-- an entry could not be written
pub returns-then-not-patient-2 : goal.returns-then-not-patient-2
returns-then-not-patient-2 g c =
    let i = c.loop-lowest.invariant in
    let v = written_at g.G.Streams.behaviour (g.G.Streams.streams c.loop-lowest.streams)
    c.in-Some.ensures.stands c.in-Some.ensures.lowest c.write_lowest.ensures.valid
    c.write_lowest.ensures.puts in
    let good = i.eager c.if-not-patient-2.true in
    let s = stop_entry _ i.state v.lowest v.valid c.args.patient good (puts-part _ _ _ _ (entry v.value.fact) good
    c.if-writer-2.true v.puts.puts) in record {
      merged = tt;
      told = tt;
      told_all = tt;
      over = tt;
      cut = tt;
      ended = tt;
      short = s.short;
      reads_ahead = s.reads_ahead;
      eager = search rules;
      patience = search rules;
      fault = s.names;
      can_go_on = s.can_go_on;
      failures = no_failure _ i.state;
      sink_failures = omega (arith, i.sink_failures, v.puts.fails);
      same_sink = v.puts.same_sink ∙ i.same_sink;
      names = search rules;
    }

-- an input stopped after an entry was written
pub returns-in-Err-advance : goal.returns-in-Err-advance
returns-in-Err-advance g c =
    let i = c.loop-lowest.invariant in
    let v = written_at g.G.Streams.behaviour (g.G.Streams.streams c.loop-lowest.streams)
    c.in-Some.ensures.stands c.in-Some.ensures.lowest c.write_lowest.ensures.valid
    c.write_lowest.ensures.puts in
    let at = placed g.G.Streams.behaviour _ v.value c.in-Some.ensures.stands c.address.ensures
    (ap option_copied c.in-Some-address.is) in
    let s = stop_input _ i.state v.lowest v.valid c.args.patient c.write_lowest.new.writer.failed
    (g.G.Streams.streams c.advance.new.streams) _ c.in-Err-advance.fault v.puts.puts
    (goes_on c.else-writer-2.either) (rw (← at) at c.in-Err-advance.ensures.stops) in record {
      merged = tt;
      told = tt;
      told_all = tt;
      over = tt;
      cut = tt;
      ended = tt;
      short = s.0.short;
      reads_ahead = s.0.reads_ahead;
      eager = search rules;
      patience = search rules;
      fault = s.0.names;
      can_go_on = s.0.can_go_on;
      failures = s.1;
      sink_failures = omega (arith, i.sink_failures, v.puts.fails);
      same_sink = v.puts.same_sink ∙ i.same_sink;
      names = search rules;
    }

-- the merge after one turn more
next : (g : Over) (c : goal.In_default-advance g)
    → State g.G.Streams.behaviour c.write_lowest.new.writer.failed
    (IsCounted g.row.SESSIONS g.row.OBJECTS g.row.SYMBOLS c.if-within.tally c.if-within.within)
    (g.G.Streams.streams c.args.streams.now) (g.G.Streams.streams c.advance.new.streams)
    (g.W.Sink.written c.args.writer.now.sink.now)
    (g.W.Sink.written c.write_lowest.new.writer.sink.now) (c.loop-lowest.entries + 1)
next g c =
    let v = written_at g.G.Streams.behaviour (g.G.Streams.streams c.loop-lowest.streams)
    c.in-Some.ensures.stands c.in-Some.ensures.lowest c.write_lowest.ensures.valid
    c.write_lowest.ensures.puts in
    let at = placed g.G.Streams.behaviour _ v.value
    c.in-Some.ensures.stands c.address.ensures (ap option_copied c.in-Some-address.is) in
    let f = v.value.fact in
    state_turn _ c.loop-lowest.invariant.state v.lowest v.valid _ _ _ _ (λ F r k. elim c.if-within.branch [
      | then-within w ↦ let before = rw w.if-within.true at k in
          rw (w.tally-is, w.within-is) (counted _ _ _ w.count-within.new.self _ _
          (w.count-within.ensures.within F f at r before)
          (w.count-within.ensures.over F f at r before))
      | else-within w ↦ rw (w.tally-is, w.within-is, w.if-within.false)
          (over_more F f _ _ _ (rw w.if-within.false at k))
    ]) v.puts.puts (rw at c.in_default-advance.ensures.go_on)

pub overflow_add-entries : goal.overflow_add-entries
overflow_add-entries g c = omega (arith, few-joined _ (next g c), c.requires.few)

pub loop-lowest-preserved : goal.loop-lowest-preserved
loop-lowest-preserved g c =
    let v = written_at g.G.Streams.behaviour (g.G.Streams.streams c.loop-lowest.streams)
    c.in-Some.ensures.stands c.in-Some.ensures.lowest c.write_lowest.ensures.valid
    c.write_lowest.ensures.puts in
    let i = c.loop-lowest.invariant in
    record {
      state = next g c;
      sink_failures = omega (arith, i.sink_failures, v.puts.fails);
      eager = goes_on c.else-writer-2.either;
      same_sink = v.puts.same_sink ∙ i.same_sink;
      led = c.in_default-advance.ensures.led;
      names = c.advance.ensures.names ∙ i.names;
    }

pub loop-lowest-smaller : goal.loop-lowest-smaller
loop-lowest-smaller g c =
    let v = at_lowest g.G.Streams.behaviour (g.G.Streams.streams c.loop-lowest.streams)
    c.in-Some.ensures.stands c.in-Some.ensures.lowest in
    let at = placed g.G.Streams.behaviour _ v.value
    c.in-Some.ensures.stands c.address.ensures (ap option_copied c.in-Some-address.is) in
    turn-falls _ c.loop-lowest.invariant.state v.lowest _ (rw at c.in_default-advance.ensures.go_on)

-- the end could not be written
pub returns-then-not-patient-3 : goal.returns-then-not-patient-3
returns-then-not-patient-3 g c =
    let i = c.loop-lowest.invariant in
    let good = i.eager c.if-not-patient-3.true in
    let s = stop_end _ i.state c.in_default-lowest.ensures.lowest c.args.patient good
    (puts-part _ _ _ _ (end c.loop-lowest.entries) good c.if-writer-3.true c.end.ensures.puts) in record {
      merged = tt;
      told = tt;
      told_all = tt;
      over = tt;
      cut = tt;
      ended = tt;
      short = s.short;
      reads_ahead = s.reads_ahead;
      eager = search rules;
      patience = search rules;
      fault = s.names;
      can_go_on = s.can_go_on;
      failures = no_failure _ i.state;
      sink_failures = search rules;
      same_sink = search rules;
      names = search rules;
    }

pub returns : goal.returns
returns g c =
    let i = c.loop-lowest.invariant in
    let e = finished _ _ _ c.end.new.self.failed i.state _ c.requires.few
    c.in_default-lowest.ensures.lowest c.end.ensures.puts in record {
      merged = e.merged;
      told = search rules;
      told_all = search rules;
      over = search rules;
      cut = λ d. cut_journal _ _ _ _ c.end.new.self.failed d e.merged.puts;
      ended = e;
      short = tt;
      reads_ahead = search rules;
      eager = search rules;
      patience = tt;
      fault = tt;
      can_go_on = tt;
      failures = no_failure _ i.state;
      sink_failures = search rules;
      same_sink = search rules;
      names = search rules;
    }

-- after a failed write the end was not written

some_end : (n : ℕ) → end n ≢ []
some_end n e = cc

pub returns-then-not-within : goal.returns-then-not-within
returns-then-not-within g c =
    let i = c.loop-lowest.invariant in
    let e = finished _ _ _ true i.state _ c.requires.few
    c.in_default-lowest.ensures.lowest (left_out c.loop-lowest.writer.failed _
    (end c.loop-lowest.entries) (some_end c.loop-lowest.entries)) in
    record {
      merged = e.merged;
      told = search rules;
      told_all = search rules;
      over = search rules;
      cut = λ d. cut_journal _ _ _ _ true d e.merged.puts;
      ended = e;
      short = tt;
      reads_ahead = search rules;
      eager = search rules;
      patience = tt;
      fault = tt;
      can_go_on = tt;
      failures = no_failure _ i.state;
      sink_failures = search rules;
      same_sink = search rules;
      names = search rules;
    }
