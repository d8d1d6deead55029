-- join: inputs are not joined, or there are too many entries.
use Rattle.std.proofs.Common.{ℕ, List, Option, Some, inl, inr, refl}
use Rattle.std.proofs.lemmas.Result.{err_from_is_err_and}
use Rattle.flutejoin_c.proofs.join.join.Goals as goal

pub returns-in_err-joined-clause-failed : goal.returns-in_err-joined-clause-failed
returns-in_err-joined-clause-failed c =
    let refused = err_from_is_err_and c.from_residual.result c.from_residual.ensures.1 in
    rw (refused.1, refused.2) (inl c.in_err-joined.ensures.failed)

pub returns-then-joined-gt-MAX_ENTRIES-clause-failed :
    goal.returns-then-joined-gt-MAX_ENTRIES-clause-failed
returns-then-joined-gt-MAX_ENTRIES-clause-failed c =
    let joined = c.in_ok-joined.joined in
    let old : Option (List ℕ) = Some c.args.sink.now.bytes.items in
    let new : Option (List ℕ) = Some c.join_by.new.sink.bytes.items in
    let was = c.in_ok-joined.ensures.joined in
    inr (
      refl,
      (joined.entries, old, new, (joined, was, refl), c.if-joined-gt-MAX_ENTRIES.true),
    )
