use Rattle.std.proofs.Common.{◌≡◌, ap, sym, subst, true, OnErr}
use Rattle.flute_output.proofs.Runs.{on_err_same}
use Rattle.flute_output.proofs.disk_folder.DiskFolderFolder.flush.Goals as goal

pub returns-clause-broken : goal.returns-clause-broken
returns-clause-broken g c =
    subst (λ b. OnErr c.count.result (b ≡ true)) (sym (ap (λ s. s.is_broken) c.count.ensures.same))
    (on_err_same c.count.result c.pour-poured.result _ c.count.ensures.refused c.pour-poured.ensures.broken)
