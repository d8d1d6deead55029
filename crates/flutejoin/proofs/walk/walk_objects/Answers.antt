-- walk_objects: its loop over the journal's entries, the end, and each fault.
use Rattle.std.proofs.Common.{◌≡◌, ◌∙◌, List, ℕ, Option, Err, []}
use Rattle.std.proofs.Common.{ap, sym, rules, refl, arith}
use Rattle.std.specs.Prelude.{filter}
use Rattle.std.specs.Io.KnownBytes.{IsAtEnd}
use Rattle.std.proofs.lemmas.Result.{err_from_is_err_and}
use Rattle.flute_parts.proofs.Public.{of_equal}
use Rattle.flutejoin.specs.Gaps.{GapsFail, ReadsWithin}
use Rattle.flutejoin.specs.Limits.{at_most}
use Rattle.flutejoin.specs.Show.{FailsToRead}
use Rattle.flutejoin.proofs.walk_lemmas.Entries.{none_read}
use Rattle.flutejoin.proofs.walk_lemmas.Objects.{none_walked}
use Rattle.flutejoin.proofs.walk_lemmas.Journals.{all_read, can_add, fails_since, fewer}
use Rattle.flutejoin.proofs.walk_lemmas.Journals.{is_at, none_written, not_read, one_more, read_rises, reads_within}
use Rattle.flutejoin.proofs.walk_lemmas.Journals.{whole_within}
use Rattle.flute_parts.specs.Addresses.{fact_of}
use Rattle.flutejoin.specs.NextEntry.{holding}
use Rattle.flutejoin.proofs.HeldEntries.{none_held, one_held}
use Rattle.flutejoin.proofs.PickedFacts.{none_picked, one_picked, picked_rises}
use Rattle.flutejoin.proofs.walk.walk_objects.Goals as goal

pub loop-held-init : goal.loop-held-init
loop-held-init g c = record {
  read = record {
    entries = [];
    read = none_read _ _ c.new-reader.ensures.unread c.new-reader.ensures.limit
        c.new-reader.ensures.state c.new-tally.ensures;
    stands = λ at none. none_walked _ at c.args.visitor.now c.new-walk.ensures none;
  };
  source = refl;
  reads = ap g.R.Source.failures c.new-reader.ensures.unread;
  kept = refl;
  failures = refl;
}

pub returns-in_err-next_entry-clause-failed : goal.returns-in_err-next_entry-clause-failed
returns-in_err-next_entry-clause-failed g c =
    let u = g.R.Source.unread c.args.source.now in
    let h = c.loop-held.invariant.read in
    let e = err_from_is_err_and c.from_residual.result c.from_residual.ensures.1 in
    let f = c.in_err-next_entry.field-0.0 in
    let most = at_most g.row.SESSIONS g.row.OBJECTS g.row.SYMBOLS in
    let P : Option (List ℕ) → Type 0 = λ left. GapsFail most u left f in
    rw (e.1 ∙ ap Err e.2) (of_equal g.R.Source.unread P
    (not_read most u _ f (c.in_err-next_entry.ensures.next u h.entries h.read)) _ (search rules))

pub returns-in_err-next_entry-clause-read_failures : goal.returns-in_err-next_entry-clause-read_failures
returns-in_err-next_entry-clause-read_failures g c =
    let h = c.loop-held.invariant.read in
    let e = err_from_is_err_and c.from_residual.result c.from_residual.ensures.1 in
    let f = c.in_err-next_entry.field-0.0 in
    let P : ℕ → Type 0 = λ n. FailsToRead {T = Unit {0}} (g.R.Source.failures c.args.source.now) n
    (Err f) in rw (e.1 ∙ ap Err e.2) (of_equal g.R.Source.failures P (fails_since f _
    c.loop-held.invariant.reads (c.in_err-next_entry.ensures.failures _ h.entries h.read)) _
    (search rules))

pub returns-in_err-next_entry-clause-failures : goal.returns-in_err-next_entry-clause-failures
returns-in_err-next_entry-clause-failures g c =
    let u = g.R.Source.unread c.args.source.now in
    let i = c.loop-held.invariant in
    let e = err_from_is_err_and c.from_residual.result c.from_residual.ensures.1 in
    let most = at_most g.row.SESSIONS g.row.OBJECTS g.row.SYMBOLS in
    rw (e.1 ∙ ap Err e.2) (omega (
      arith,
      i.failures,
      none_written most u _
          c.in_err-next_entry.field-0.0 (c.in_err-next_entry.ensures.next u i.read.entries i.read.read),
    ))

pub add-requires : goal.add-requires
add-requires g c =
    let h = c.loop-held.invariant.read in
    let is = one_held c.next_entry.new.held c.fact.ensures c.buffer.ensures c.in-Some.is in
    let gave = rw is at (c.in_ok-next_entry.ensures.next _ h.entries h.read) in
    can_add h _ gave (sym c.picks.ensures ∙ c.if-picks.true) _ c.requires.1

pub returns-in_default-add-clause-failed : goal.returns-in_default-add-clause-failed
returns-in_default-add-clause-failed g c =
    let u = g.R.Source.unread c.args.source.now in
    let h = c.loop-held.invariant.read in
    let is = one_held c.next_entry.new.held c.fact.ensures c.buffer.ensures c.in-Some.is in
    let gave = rw is at (c.in_ok-next_entry.ensures.next u h.entries h.read) in
    let P = ReadsWithin (at_most g.row.SESSIONS g.row.OBJECTS g.row.SYMBOLS) u in
    of_equal g.R.Source.unread P
    (reads_within h (fact_of c.in-Some.fact) gave _ c.let_go.ensures.takes) _ (search rules)

pub returns-in_default-add-clause-read_failures : goal.returns-in_default-add-clause-read_failures
returns-in_default-add-clause-read_failures g c =
    let h = c.loop-held.invariant.read in
    let gave = c.in_ok-next_entry.ensures.failures _ h.entries h.read in
    let P : ℕ → Type 0 = λ n. n ≡ g.R.Source.failures c.args.source.now in
    of_equal g.R.Source.failures P (c.let_go.ensures.failures ∙ gave ∙ c.loop-held.invariant.reads) _
    (search rules)

pub loop-held-smaller : goal.loop-held-smaller
loop-held-smaller g c =
    let h = c.loop-held.invariant.read in
    let is = one_held c.next_entry.new.held c.fact.ensures c.buffer.ensures c.in-Some.is in
    let gave = rw is at (c.in_ok-next_entry.ensures.next _ h.entries h.read) in
    fewer h (fact_of c.in-Some.fact) gave

pub loop-held-smaller-in-Ok-1 : goal.loop-held-smaller-in-Ok-1
loop-held-smaller-in-Ok-1 g c =
    let h = c.loop-held.invariant.read in
    let is = one_held c.next_entry.new.held c.fact.ensures c.buffer.ensures c.in-Some.is in
    let gave = rw is at (c.in_ok-next_entry.ensures.next _ h.entries h.read) in
    fewer h (fact_of c.in-Some.fact) gave

pub loop-held-preserved : goal.loop-held-preserved
loop-held-preserved g c =
    let i = c.loop-held.invariant in
    let h = i.read in
    let f = fact_of c.in-Some.fact in
    let picks = g.P.Picks.picks c.args.picks.now in
    let is = one_held c.next_entry.new.held c.fact.ensures c.buffer.ensures c.in-Some.is in
    let gave = rw is at (c.in_ok-next_entry.ensures.next _ h.entries h.read) in
    let other = none_picked picks f h.entries (sym c.picks.ensures ∙ c.if-picks.false) in
    record {
      read = one_more h f gave (λ at l. rw other l);
      source = c.next_entry.ensures.source ∙ i.source;
      reads = c.in_ok-next_entry.ensures.failures _ h.entries h.read ∙ i.reads;
      kept = i.kept;
      failures = i.failures;
    }

pub loop-held-preserved-in-Ok-1 : goal.loop-held-preserved-in-Ok-1
loop-held-preserved-in-Ok-1 g c =
    let i = c.loop-held.invariant in
    let h = i.read in
    let f = fact_of c.in-Some.fact in
    let picks = g.P.Picks.picks c.args.picks.now in
    let is = one_held c.next_entry.new.held c.fact.ensures c.buffer.ensures c.in-Some.is in
    let gave = rw is at (c.in_ok-next_entry.ensures.next _ h.entries h.read) in
    let chosen = sym c.picks.ensures ∙ c.if-picks.true in
    record {
      read = one_more h f gave (λ at l. rw (one_picked _ f _ chosen) (c.in-Ok.ensures.added at
          (filter picks h.entries) (picked_rises _ f _ chosen gave.sofar.are_items.in_order) l));
      source = c.next_entry.ensures.source ∙ i.source;
      reads = c.in_ok-next_entry.ensures.failures _ h.entries h.read ∙ i.reads;
      kept = c.in-Ok.ensures.kept ∙ i.kept;
      failures = omega (arith, c.in-Ok.ensures.failures, i.failures);
    }

pub close-requires : goal.close-requires
close-requires g c = is_at c.loop-held.invariant.read c.requires.0 c.requires.1

pub returns-in_err-close-clause-failed : goal.returns-in_err-close-clause-failed
returns-in_err-close-clause-failed g c =
    let u = g.R.Source.unread c.args.source.now in
    let h = c.loop-held.invariant.read in
    let e = err_from_is_err_and c.from_residual-in_err-close.result
    c.from_residual-in_err-close.ensures.1 in
    let is = none_held c.next_entry.new.held c.fact.ensures c.buffer.ensures c.in_default.is in
    let gave = rw is at (c.in_ok-next_entry.ensures.next u h.entries h.read) in
    let P = ReadsWithin (at_most g.row.SESSIONS g.row.OBJECTS g.row.SYMBOLS) u in
    rw (e.1 ∙ ap Err e.2) (of_equal g.R.Source.unread P (whole_within h (holding c.next_entry.new.reader c.next_entry.new.held) c.next_entry.new.tally gave) _ (search rules))

pub returns-in_err-close-clause-read_failures : goal.returns-in_err-close-clause-read_failures
returns-in_err-close-clause-read_failures g c =
    let h = c.loop-held.invariant.read in
    let e = err_from_is_err_and c.from_residual-in_err-close.result
    c.from_residual-in_err-close.ensures.1 in
    let gave = c.in_ok-next_entry.ensures.failures _ h.entries h.read in
    let P : ℕ → Type 0 = λ n. n ≡ g.R.Source.failures c.args.source.now in
    rw (e.1 ∙ ap Err e.2) (of_equal g.R.Source.failures P (gave ∙ c.loop-held.invariant.reads) _
    (search rules))

pub returns-clause-told : goal.returns-clause-told
returns-clause-told g c = λ at none.
    let h = c.loop-held.invariant.read in
    let is = none_held c.next_entry.new.held c.fact.ensures c.buffer.ensures c.in_default.is in
    let gave = rw is at (c.in_ok-next_entry.ensures.next _ h.entries h.read) in
    let all = c.in_ok-close.ensures.closed at (filter (g.P.Picks.picks c.args.picks.now) h.entries)
    (read_rises h) (h.stands at none) in
    all_read h (holding c.next_entry.new.reader c.next_entry.new.held) c.next_entry.new.tally gave _ all.told all.has

pub returns-clause-within : goal.returns-clause-within
returns-clause-within g c =
    let u = g.R.Source.unread c.args.source.now in
    let h = c.loop-held.invariant.read in
    let is = none_held c.next_entry.new.held c.fact.ensures c.buffer.ensures c.in_default.is in
    let gave = rw is at (c.in_ok-next_entry.ensures.next u h.entries h.read) in
    let P = ReadsWithin (at_most g.row.SESSIONS g.row.OBJECTS g.row.SYMBOLS) u in
    of_equal g.R.Source.unread P (whole_within h (holding c.next_entry.new.reader c.next_entry.new.held) c.next_entry.new.tally gave) _
    (search rules)

pub returns-clause-end : goal.returns-clause-end
returns-clause-end g c =
    let h = c.loop-held.invariant.read in
    let is = none_held c.next_entry.new.held c.fact.ensures c.buffer.ensures c.in_default.is in
    let gave = rw is at (c.in_ok-next_entry.ensures.next _ h.entries h.read) in
    of_equal g.R.Source.unread IsAtEnd gave.1 _ (search rules)

pub returns-clause-read_failures : goal.returns-clause-read_failures
returns-clause-read_failures g c =
    let h = c.loop-held.invariant.read in
    let gave = c.in_ok-next_entry.ensures.failures _ h.entries h.read in
    let P : ℕ → Type 0 = λ n. n ≡ g.R.Source.failures c.args.source.now in
    of_equal g.R.Source.failures P (gave ∙ c.loop-held.invariant.reads) _ (search rules)
