-- ObjectWalk::close: the progress object is ended.
use Rattle.std.proofs.Common.{◌∙◌, ◌∷◌, [], None, sym, subst, refl, arith}
use Rattle.std.proofs.Common.{length-append}
use Rattle.flutejoin.specs.Told.{told_of}
use Rattle.flutejoin.specs.Walk.{Walks}
use Rattle.flutejoin.proofs.walk_lemmas.Objects.{all_counted, all_has, before_short, heard_open, none_open}
use Rattle.flutejoin.proofs.walk_lemmas.Objects.{one_more_closed}
use Rattle.flutejoin.proofs.gaps_lemmas.StatusLines.{status_is}
use Rattle.flutejoin.proofs.walk.object_walk.ObjectWalk.close.Goals as goal

pub returns-in_default-clause-closed : goal.returns-in_default-clause-closed
returns-in_default-clause-closed g c = λ at F r l. let q = subst
    (λ o. Walks F l.objects l.progress o) (sym c.take.ensures.value ∙ c.in_default.is) l.walks in
    record {
      objects = [];
      told = none_open F q.0;
      few = omega arith;
      has = subst (λ x. g.V.Visitor.Has at x None c.args.visitor.now) q.1
          (subst (λ x. g.V.Visitor.Has at l.objects x c.args.visitor.now) q.2 l.has);
    }

pub end_object-requires : goal.end_object-requires
end_object-requires g c =
    let w = c.requires in
    let h = subst (λ o. Walks w.facts w.objects w.progress o)
    (sym c.take.ensures.value ∙ c.in-Some.is) w.walks in
    (c.in-Some.object.key, h.mine, w.progress, h.state_is)

pub ends-requires : goal.ends-requires
ends-requires g c =
    let w = c.requires in
    let h = subst (λ o. Walks w.facts w.objects w.progress o)
    (sym c.take.ensures.value ∙ c.in-Some.is) w.walks in
    let told = c.in_ok-status.ensures.told w.index w.facts h.before h.mine c.in-Some.object.key
    w.objects w.progress h.all w.rising (heard_open h) h.first h.state_is w.has in
    (w.index, w.objects, told.0, omega (arith, before_short h, h.few, w.few), told.2)

pub returns-clause-closed : goal.returns-clause-closed
returns-clause-closed g c = λ at F r l.
    let key = c.in-Some.object.key in
    let status = c.in_ok-status.status in
    let h = subst (λ o. Walks F l.objects l.progress o)
    (sym c.take.ensures.value ∙ c.in-Some.is) l.walks in
    let told = c.in_ok-status.ensures.told at F h.before h.mine key l.objects l.progress h.all r
    (heard_open h) h.first h.state_is l.has in
    let t = told_of F key in
    all_has _ at c.ends.new.self (one_more_closed h r)
    (omega (arith, before_short h, h.few, length-append l.objects (t ∷ []))) c.ends.result
    (c.ends.ensures.told at l.objects told.0 t refl (sym (status_is F _ _ told.1.0))
    (all_counted h) (F, refl) told.1.1 told.2)
