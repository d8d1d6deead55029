use Rattle.std.proofs.Common.{arith}
use Rattle.std.proofs.lemmas.Grind.{common_steps}
use Rattle.std.proofs.Common.{rules}
use Rattle.std.proofs.Common.{[], ◌∷◌, ◌++◌, sym, ap, ◌∙◌, subst, refl, IsNone, lit<, append_assoc}
use Rattle.flute_join.specs.JoinMap.{IsOrdered}
use Rattle.flute_join.proofs.Copied.{absent_before, insert_last}
use Rattle.flute_join.proofs.map.JoinMapJoin.copy.Goals as goal

pub add_new-requires : goal.add_new-requires
add_new-requires g c = search (rules, absent_before)

pub loop-key-preserved : goal.loop-key-preserved
loop-key-preserved g c =
    let p : g.row.K.Denot × g.row.V.Denot = (c.in-Some.key.now, c.in-Some.value.now) in
    let whole = rw c.in-Some.ensures.steps at c.loop-key.invariant in
    let ordered = subst (IsOrdered g.K.Ord.cmp) (sym whole) c.iter-key-items.ensures.ordered in
    let added = rw c.in_ok-copy.ensures.equal at c.in_ok-add_new.ensures.ok in
    ap (λ l. l ++ c.next.new.self)
    (added ∙ insert_last g.met.K.Ord.total c.loop-key.copied p c.next.new.self ordered) ∙
    append_assoc c.loop-key.copied (p ∷ []) c.next.new.self ∙ whole
