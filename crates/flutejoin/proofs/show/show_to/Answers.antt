-- show_to: its loop writes the lines of the picked entries; its end, and each fault.
use Rattle.std.proofs.lemmas.Grind.{common_steps}
use Rattle.std.proofs.Common.{◌≡◌, ◌∙◌, ℕ, List, Option, ap, sym, subst, refl, rules, Ok, Err}
use Rattle.std.proofs.Common.{arith}
use Rattle.flute_parts.proofs.Public.{of_equal}
use Rattle.flutejoin.specs.Show.{FailsToRead, ShowsPart, ShowsUntil}
use Rattle.flutejoin.specs.declared.command_fault.CommandFault.TheVariants.{Input}
use Rattle.std.proofs.lemmas.Result.{err_from_is_err_and}
use Rattle.flutejoin.proofs.Mapped.{read_failed, read_done}
use Rattle.flutejoin.proofs.Shown.{shown-line, shown-other, shown-part, shown-fault, shown-all}
use Rattle.flutejoin.proofs.Shown.{shown-cut, if_done, cut_short, only_written}
use Rattle.std.proofs.Common.{true, false}
use Rattle.std.specs.Prelude.{IfErr}
use Rattle.flute_parts.specs.Devices.{AppendsPart}
use Rattle.flutejoin.specs.Show.{ShowFails}
use Rattle.flutejoin.proofs.Shown.{entry_given, end_given, fault_given, no_read_failure}
use Rattle.flutejoin.proofs.Shown.{few_shown, just_line, read_failures}
use Rattle.flute_parts.specs.Addresses.{fact_of}
use Rattle.flute_journal.specs.HeldEntries.{fact_held}
use Rattle.flute_journal.proofs.Public.{left_all}
use Rattle.flute_streams.proofs.Public.{nothing_held}
use Rattle.flutejoin.proofs.HeldEntries.{let_go_given, none_held, one_held}
use Rattle.flutejoin.proofs.Shown.{none_shown}
use Rattle.flutejoin.proofs.show.show_to.Goals as goal

pub loop-held-init : goal.loop-held-init
loop-held-init g c =
    let u = g.R.Source.unread c.args.source.now in
    let now = c.new-reader.ensures.unread in
    record {
      shown = none_shown c.args.style (g.P.Picks.picks c.args.picks.now) u
          (g.W.Sink.written c.args.sink.now)
          (left_all (g.R.Source.unread c.new-reader.result.source.now)
          ∙ ap g.R.Source.unread now) c.new-reader.ensures.state;
      limit = c.new-reader.ensures.limit;
      source = refl;
      reads = ap g.R.Source.failures now;
      writes = refl;
    }

pub returns-in_err-at_input-clause-failed : goal.returns-in_err-at_input-clause-failed
returns-in_err-at_input-clause-failed g c =
    let u = g.R.Source.unread c.args.source.now in
    let to = c.next_into.new.self in
    let held = c.next_into.new.held in
    let s = g.W.Sink.written c.args.sink.now in
    let t = g.W.Sink.written c.loop-held.sink in
    let h = c.loop-held.invariant in
    let r = read_failed c.next_into.result c.at_input.result 1 c.in_err-at_input.field-0.0
    c.at_input.ensures c.in_err-at_input.was in
    let e = err_from_is_err_and c.from_residual.result c.from_residual.ensures.1 in
    let holds = rw r.1 at c.next_into.ensures.holds in
    let buffer = g.R.Source.buffered to.source.now in
    let all = nothing_held buffer held (g.R.Source.unread to.source.now)
    (ap (fact_held buffer) holds.none) in
    let picks = g.P.Picks.picks c.args.picks.now in
    let P : Option (List ℕ) → Type 0 = λ left. ShowsUntil c.args.style picks u left s t r.0 in
    let here = subst P all (shown-fault h.shown
    (fault_given c.loop-held.reader.state to.state _ _ holds.gives h.limit refl)) in
    rw (e.1 ∙ ap Err (e.2 ∙ r.2)) (refl, of_equal g.R.Source.unread P here _ (search rules))

pub returns-in_default-write_entry-clause-failed : goal.returns-in_default-write_entry-clause-failed
returns-in_default-write_entry-clause-failed g c =
    let u = g.R.Source.unread c.args.source.now in
    let to = c.next_into.new.self in
    let h = c.loop-held.invariant in
    let style = c.args.style in
    let picks = g.P.Picks.picks c.args.picks.now in
    let f = fact_of c.in-Some.fact in
    let s = g.W.Sink.written c.args.sink.now in
    let t = g.W.Sink.written c.loop-held.sink in
    let t' = g.W.Sink.written c.write_entry.new.sink in
    let done = read_done c.next_into.result c.at_input.result 1 c.in_ok-at_input.field-0
    c.at_input.ensures c.in_ok-at_input.was in
    let holds = rw done at c.next_into.ensures.holds in
    let is = one_held c.next_into.new.held c.fact.ensures c.buffer.ensures c.in-Some.is in
    let gave = let_go_given _ (g.R.Source.unread c.let_go.new.self.source.now) _
    c.let_go.ensures.takes
    (entry_given c.loop-held.reader.state to.state _ _ holds.gives h.limit (ap Ok is)) in
    let chosen : picks f ≡ true = sym c.picks.ensures ∙ c.if-picks.true in
    let here = shown-part h.shown gave
    (subst (λ (x : List ℕ). AppendsPart t t' x) (sym (just_line picks f style chosen))
    c.in_default-write_entry.ensures.line) in
    let P : Option (List ℕ) → Type 0 = λ left. ShowsPart style picks u left s t' in
    of_equal g.R.Source.unread P here _ (search rules)

pub loop-held-preserved : goal.loop-held-preserved
loop-held-preserved g c =
    let to = c.next_into.new.self in
    let h = c.loop-held.invariant in
    let picks = g.P.Picks.picks c.args.picks.now in
    let f = fact_of c.in-Some.fact in
    let done = read_done c.next_into.result c.at_input.result 1 c.in_ok-at_input.field-0
    c.at_input.ensures c.in_ok-at_input.was in
    let holds = rw done at c.next_into.ensures.holds in
    let is = one_held c.next_into.new.held c.fact.ensures c.buffer.ensures c.in-Some.is in
    let gave = entry_given c.loop-held.reader.state to.state _ _ holds.gives h.limit (ap Ok is) in
    record {
      shown = shown-other h.shown gave (sym c.picks.ensures ∙ c.if-picks.false);
      limit = c.next_into.ensures.limit ∙ h.limit;
      source = c.next_into.ensures.source ∙ h.source;
      reads = no_read_failure _ _ (ap Ok is) holds.failed h.reads;
      writes = h.writes;
    }

pub loop-held-preserved-then-picks : goal.loop-held-preserved-then-picks
loop-held-preserved-then-picks g c =
    let to = c.next_into.new.self in
    let h = c.loop-held.invariant in
    let picks = g.P.Picks.picks c.args.picks.now in
    let f = fact_of c.in-Some.fact in
    let done = read_done c.next_into.result c.at_input.result 1 c.in_ok-at_input.field-0
    c.at_input.ensures c.in_ok-at_input.was in
    let holds = rw done at c.next_into.ensures.holds in
    let is = one_held c.next_into.new.held c.fact.ensures c.buffer.ensures c.in-Some.is in
    let gave = entry_given c.loop-held.reader.state to.state _ _ holds.gives h.limit (ap Ok is) in
    record {
      shown = shown-line h.shown gave (sym c.picks.ensures ∙ c.if-picks.true)
          c.in-Ok.ensures.line;
      limit = c.next_into.ensures.limit ∙ h.limit;
      source = c.next_into.ensures.source ∙ h.source;
      reads = no_read_failure _ _ (ap Ok is) holds.failed h.reads;
      writes = omega (arith, c.in-Ok.ensures.failures, h.writes);
    }

pub returns-clause-failed : goal.returns-clause-failed
returns-clause-failed g c =
    let u = g.R.Source.unread c.args.source.now in
    let to = c.next_into.new.self in
    let h = c.loop-held.invariant in
    let s = g.W.Sink.written c.args.sink.now in
    let t' = g.W.Sink.written c.write_number.new.sink in
    let done = read_done c.next_into.result c.at_input.result 1 c.in_ok-at_input.field-0
    c.at_input.ensures c.in_ok-at_input.was in
    let holds = rw done at c.next_into.ensures.holds in
    let is = none_held c.next_into.new.held c.fact.ensures c.buffer.ensures c.in_default.is in
    let all = nothing_held (g.R.Source.buffered to.source.now) c.next_into.new.held
    (g.R.Source.unread to.source.now) is in
    let gave = end_given c.loop-held.reader.max_entries c.loop-held.reader.state to.state _ _ holds.gives
    (ap Ok is) in
    let picks = g.P.Picks.picks c.args.picks.now in
    let P : Option (List ℕ) → Type 0 = λ left. IfErr c.write_number.result
    (ShowFails c.args.style picks u left s t') in
    let here = cut_short c.args.style picks u _ s t' c.write_number.result
    (λ line. shown-cut h.shown gave line) c.write_number.ensures.failed in
    of_equal g.R.Source.unread P (subst P all here) _ (search rules)

pub returns-clause-printed : goal.returns-clause-printed
returns-clause-printed g c =
    let to = c.next_into.new.self in
    let h = c.loop-held.invariant in
    let done = read_done c.next_into.result c.at_input.result 1 c.in_ok-at_input.field-0
    c.at_input.ensures c.in_ok-at_input.was in
    let holds = rw done at c.next_into.ensures.holds in
    let is = none_held c.next_into.new.held c.fact.ensures c.buffer.ensures c.in_default.is in
    let gave = end_given c.loop-held.reader.max_entries c.loop-held.reader.state to.state _ _ holds.gives
    (ap Ok is) in
    if_done c.write_number.result (λ line. shown-all h.shown gave line)
    c.write_number.ensures.printed

pub overflow_add-count : goal.overflow_add-count
overflow_add-count g c =
    let few = few_shown c.loop-held.invariant.shown in
    omega (arith, few)
