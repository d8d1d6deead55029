use Rattle.std.proofs.Common.{sym, subst, ap, ◌∙◌}
use Rattle.flute_store.proofs.Common.{Information, ScanState, Scans}
use Rattle.flute_store.proofs.{HowMany.{tells-status}, ScanTurns.{counts-wants}}
use Rattle.flute_store.proofs.scan.ObjectScan.status.Goals as goal

pub returns : goal.returns
returns c = λ s q F g. rw c.status.ensures (tells-status F s.key s.info _ g.information
    (counts-wants _ s F (subst (λ (o : ScanState). Scans o s) (sym c.self.view_is) q) g) _
    (c.length.ensures.value
    ∙ ap (λ (o : ScanState). o.info.transfer_length) c.self.view_is ∙ ap
    (λ (i : Information). i.transfer_length) (sym q.info_is)))
