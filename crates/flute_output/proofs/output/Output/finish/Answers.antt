use Rattle.std.proofs.Common.{◌≡◌, subst, sym}
use Rattle.flute_output.specs.Entries.{Leads, OutStays}
use Rattle.flute_output.specs.OutMoments.{Steady}
use Rattle.flute_output.proofs.Steps.{becomes_named, becomes_nothing, leads_itself, steady_itself}
use Rattle.flute_output.proofs.output.Output.finish.Goals as goal
use Rattle.flute_output.proofs.output.Output.finish.Goals.{in-Ok+in-Err-keep, in-Err}

pub returns-in-Ok-keep-clause-each_moment : goal.returns-in-Ok-keep-clause-each_moment
returns-in-Ok-keep-clause-each_moment g c = rw (← c.self.view_is)
    (becomes_named _ _ _ _ _ _ c.sync_names.result c.in-Ok-keep.ensures.given
    c.sync_names.ensures.synced c.sync_names.ensures.refused c.sync_names.ensures.sure
    c.sync_names.ensures.steady)

pub returns-clause-each_moment : goal.returns-clause-each_moment
returns-clause-each_moment g c = rw (← c.self.view_is) (elim c.match-done.branch [
  | in-Ok+in-Err-keep w ↦
      becomes_nothing _ (g.F.Folder.entries c.match-done.folder) _ _
      (g.F.Folder.moments c.match-done.folder) _ OutStays _ _ c.remove.result
      (subst (λ f. Leads OutStays _ (g.F.Folder.entries f)) (sym w.folder-is)
      w.in-Err-keep.ensures.refused)
      c.remove.ensures.removed c.remove.ensures.refused
      (subst (λ f. Steady _ (g.F.Folder.moments f)) (sym w.folder-is) w.in-Err-keep.ensures.steady)
      c.remove.ensures.steady
  | in-Err w ↦
      becomes_nothing _ (g.F.Folder.entries c.match-done.folder) _ _
      (g.F.Folder.moments c.match-done.folder) _ (λ x y. y ≡ x) _ _ c.remove.result
      (subst (λ f. Leads (λ x y. y ≡ x) (g.F.Folder.entries c.self.inside.folder)
      (g.F.Folder.entries f)) (sym w.folder-is) (leads_itself _))
      c.remove.ensures.removed c.remove.ensures.refused
      (subst (λ f. Steady (g.F.Folder.moments c.self.inside.folder) (g.F.Folder.moments f))
      (sym w.folder-is) (steady_itself _))
      c.remove.ensures.steady
])
