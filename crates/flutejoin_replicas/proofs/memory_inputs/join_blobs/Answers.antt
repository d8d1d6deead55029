-- join_blobs: one input more is opened.
use Rattle.std.proofs.Common.{ℕ, false, List, Option, Some, refl, sym, ap, ◌∙◌, subst, arith}
use Rattle.std.proofs.Math.Path.{fun_ext}
use Rattle.std.proofs.lemmas.Option.{slice_get-get_or}
use Rattle.std.specs.Prelude.{IfSome}
use Rattle.flutejoin.specs.JoinInputs.{IsInput}
use Rattle.flutejoin.specs.Joining.{JoinsTo}
use Rattle.flutejoin.specs.JoinFaults.{JoinToFails}
use Rattle.flutejoin.specs.Limits.{limits_of}
use Rattle.flutejoin_replicas.proofs.MemoryFacts.{one_opened, all_opened, memory_fails, pushed}
use Rattle.flutejoin_replicas.proofs.memory_inputs.join_blobs.Goals as goal

pub loop-input-preserved : goal.loop-input-preserved
loop-input-preserved c =
    one_opened (λ s. Some s.unread.now) c.push.new.self.items c.in-Ok.input c.input-item.result
    c.loop-input.invariant
    (slice_get-get_or c.args.inputs.now c.loop-input.input-index c.input-item.result
    c.loop-input-test.true ∙ ap Some (sym c.input-item.is))
    (pushed c.push.result c.push.new.self.items c.loop-input.opened.items _
    (sym c.is_err.ensures.value ∙ c.if-is_err.false) c.push.ensures.items)
    (subst
    (λ (u : Option (List ℕ)). IfSome u (IsInput (λ s. Some s.unread.now) c.in-Ok.input))
    (c.new.ensures.bytes ∙ ap Some c.as_slice.ensures.bytes) c.in-Ok.ensures.input)

pub returns-in-Ok-joined-clause-joined : goal.returns-in-Ok-joined-clause-joined
returns-in-Ok-joined-clause-joined c =
    let opened =
    all_opened (λ s. Some s.unread.now) c.loop-input.invariant
    (omega (arith, c.loop-input-test.false)) c.deref_mut.result.now c.deref_mut.ensures.value in
    subst
    (λ takes. JoinsTo (record { most = limits_of false; sender = c.args.sender; takes = takes })
    c.args.inputs.now
    c.in-Ok-joined.counts (Some c.args.sink.now.bytes.items) (Some
    c.join_to-joined.new.sink.bytes.items))
    (fun_ext c.all.ensures) (c.in-Ok-joined.ensures.joined refl c.args.inputs.now opened)

pub returns-clause-failed : goal.returns-clause-failed
returns-clause-failed c =
    let opened =
    all_opened (λ s. Some s.unread.now) c.loop-input.invariant
    (omega (arith, c.loop-input-test.false)) c.deref_mut.result.now c.deref_mut.ensures.value in
    rw c.in_memory.ensures
    (memory_fails c.args.inputs.now c.in-Err.fault
    (subst
    (λ takes. JoinToFails (record {
      most = limits_of false;
      sender = c.args.sender;
      takes = takes;
    }) c.args.inputs.now
    c.in-Err.fault) (fun_ext c.all.ensures)
    (c.in-Err.ensures.failed refl c.args.inputs.now opened)))
