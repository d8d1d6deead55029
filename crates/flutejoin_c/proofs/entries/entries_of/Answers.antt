-- entries_of: one entry more is listed, the end was read, or reading stopped.
use Rattle.std.proofs.Common.{◌≡◌, List, ℕ, [], ◌∷◌, ◌++◌, Err, Ok, refl, sym, ap, ◌∙◌, subst, arith}
use Rattle.std.proofs.lemmas.Result.{err_from_is_err_and}
use Rattle.flute_parts.specs.Addresses.{bytes_of}
use Rattle.flutejoin_c.proofs.Listed.{ListedSoFar, last_ends, listed-all, listed-fault}
use Rattle.flutejoin_c.proofs.Listed.{listed-next, read_done, read_failed}
use Rattle.flutejoin_c.proofs.entries.entries_of.Goals as goal

pub returns-in_err-fact-clause-failed : goal.returns-in_err-fact-clause-failed
returns-in_err-fact-clause-failed c =
    let e = err_from_is_err_and c.from_residual.result c.from_residual.ensures.1 in
    let r = read_failed c.next_with.result c.at_input.result c.in_err-fact.field-0.0
    c.at_input.ensures c.in_err-fact.was in
    rw (e.1 ∙ ap Err (e.2 ∙ r.2)) (
      refl,
      listed-fault c.loop-listed.reader c.next_with.new.self c.loop-listed.invariant r.1
          c.next_with.ensures.gives,
    )

pub fields_of-fields-requires : goal.fields_of-fields-requires
fields_of-fields-requires c =
    let read = read_done c.next_with.result c.at_input.result c.in_ok-fact.field-0
    c.at_input.ensures c.in_ok-fact.was ∙ ap Ok c.in-Some.is in
    subst
    (λ (bs : List ℕ). (x : List ℕ) × (c.args.journal.now ≡ x ++ (bytes_of c.in-Some.fact ++ bs)))
    (sym c.buffer.ensures)
    (last_ends c.loop-listed.reader c.next_with.new.self c.loop-listed.invariant read
    c.next_with.ensures.gives)

pub loop-listed-preserved : goal.loop-listed-preserved
loop-listed-preserved c =
    let read = read_done c.next_with.result c.at_input.result c.in_ok-fact.field-0
    c.at_input.ensures c.in_ok-fact.was ∙ ap Ok c.in-Some.is in
    let pushed : c.push.new.self.items ≡ c.loop-listed.listed.items ++ c.fields_of-fields.result ∷ []
    = grind arith in
    subst (ListedSoFar c.args.journal.now c.next_with.new.self) (sym pushed)
    (listed-next c.loop-listed.reader c.next_with.new.self c.loop-listed.invariant read
    c.next_with.ensures.gives c.next_with.ensures.limit c.fields_of-fields.ensures)

pub returns-clause-listed : goal.returns-clause-listed
returns-clause-listed c =
    let read = read_done c.next_with.result c.at_input.result c.in_ok-fact.field-0
    c.at_input.ensures c.in_ok-fact.was ∙ ap Ok c.in_default.is in
    listed-all c.loop-listed.reader c.next_with.new.self c.loop-listed.invariant read
    c.next_with.ensures.gives
