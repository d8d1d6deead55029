-- read_status: the object and how much is held of it, one after the other.
use Rattle.std.proofs.Common.{◌∙◌, refl, sym, ap}
use Rattle.std.proofs.lemmas.Bool.{true≢false}
use Rattle.std.proofs.lemmas.Bool.Decides.{Decides-eqb}
use Rattle.std.proofs.lemmas.Slice.Eq.{slice_eq-Decides}
use Rattle.flutejoin.specs.Lines.{line, status_line}
use Rattle.flutejoin.proofs.fill_lemmas.ReadLines.{from_name, from_status, same_line, status_is}
use Rattle.flutejoin.proofs.fill.reading_lines.read_status.Goals as goal

pub returns-in_default-clause-finds : goal.returns-in_default-clause-finds
returns-in_default-clause-finds c = λ key status named counts is. c.in_default.ensures.finds
    key.session (from_name key status) named.0 refl (status_is _ _ _ is)

pub returns-in_default-object_in-clause-finds : goal.returns-in_default-object_in-clause-finds
returns-in_default-object_in-clause-finds c = λ key status named counts is. let a =
    c.in-Some.ensures.finds key.session (from_name key status) named.0 refl (status_is _ _ _ is) in
    c.in_default-object_in.ensures.finds key.object (from_status status) named.1 refl a.2

pub returns-in_default-status_in-clause-finds : goal.returns-in_default-status_in-clause-finds
returns-in_default-status_in-clause-finds c = λ key status named counts is. let a =
    c.in-Some.ensures.finds key.session (from_name key status) named.0 refl (status_is _ _ _ is) in
    let d = c.in-Some-object_in.ensures.finds key.object (from_status status) named.1 refl a.2 in
    c.in_default-status_in.ensures.finds status counts d.1

pub returns-in_default-key_of-clause-finds : goal.returns-in_default-key_of-clause-finds
returns-in_default-key_of-clause-finds c = λ key status named counts is. let a =
    c.in-Some.ensures.finds key.session (from_name key status) named.0 refl (status_is _ _ _ is) in
    let d = c.in-Some-object_in.ensures.finds key.object (from_status status) named.1 refl a.2 in
    c.in_default-key_of.ensures.finds key named.0 named.1 a.0 a.1 d.0

pub returns-then-eq-clause-finds : goal.returns-then-eq-clause-finds
returns-then-eq-clause-finds c = λ key status named counts is. let a = c.in-Some.ensures.finds
    key.session (from_name key status) named.0 refl (status_is _ _ _ is) in
    let d = c.in-Some-object_in.ensures.finds key.object (from_status status) named.1 refl a.2 in (
      c.in-Some-key_of.ensures.finds key named.0 named.1 a.0 a.1 d.0,
      c.in-Some-status_in.ensures.finds status counts d.1,
    )

pub returns-else-eq-clause-finds : goal.returns-else-eq-clause-finds
returns-else-eq-clause-finds c = λ key status named counts is. let a = c.in-Some.ensures.finds
    key.session (from_name key status) named.0 refl (status_is _ _ _ is) in
    let d = c.in-Some-object_in.ensures.finds key.object (from_status status) named.1 refl a.2 in
    let k = c.in-Some-key_of.ensures.finds key named.0 named.1 a.0 a.1 d.0 in
    let s = c.in-Some-status_in.ensures.finds status counts d.1 in
    let whole = c.as_slice.ensures ∙ same_line _ _ (c.status_text-text.ensures.line ∙ ap
    (λ x. status_line x c.in-Some-status_in.status) k ∙ ap (status_line key) s ∙ sym is) in
    let yes = (slice_eq-Decides Decides-eqb _ _ _ c.eq.ensures).1 whole in
    true≢false (sym yes ∙ c.if-eq.false)
