-- join_all: all objects are taken.
use Rattle.std.proofs.Common.{ℕ, List, Option, Some, IfErr, IfOk, subst}
use Rattle.std.proofs.Math.Path.{fun_ext}
use Rattle.flutejoin.specs.JoinFaults.{JoinToFails}
use Rattle.flutejoin.specs.Joining.{JoinsTo}
use Rattle.flutejoin.specs.Limits.{at_most}
use Rattle.flutejoin_c.proofs.join.join_all.Goals as goal

pub returns-clause-joined : goal.returns-clause-joined
returns-clause-joined g c =
    let most = at_most g.row.SESSIONS g.row.OBJECTS g.row.SYMBOLS in
    let old : Option (List ℕ) = Some c.args.sink.now.bytes.items in
    let new : Option (List ℕ) = Some c.join_to.new.sink.bytes.items in
    λ contents are.
    subst (λ takes. IfOk c.join_to.result (λ counts. JoinsTo (record {
      most = most;
      sender = c.args.sender;
      takes = takes;
    }) contents counts old new))
    (fun_ext c.all.ensures) (c.join_to.ensures.joined c.new-asides.ensures contents are)

pub returns-clause-failed : goal.returns-clause-failed
returns-clause-failed g c =
    let most = at_most g.row.SESSIONS g.row.OBJECTS g.row.SYMBOLS in
    λ contents are.
    subst (λ takes. IfErr c.join_to.result (JoinToFails (record {
      most = most;
      sender = c.args.sender;
      takes = takes;
    }) contents))
    (fun_ext c.all.ensures) (c.join_to.ensures.failed c.new-asides.ensures contents are)
