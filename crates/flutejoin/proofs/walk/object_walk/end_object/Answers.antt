-- end_object: how much is held of an object, by its state (specs/Walk: StateIs).
use Rattle.std.proofs.Common.{Some, subst}
use Rattle.flutejoin.specs.Progress.{progress_of}
use Rattle.flutejoin.specs.Walk.{StateIs}
use Rattle.flutejoin.proofs.walk_lemmas.Objects.{no_information_told, conflict_told, scan_gave}
use Rattle.flutejoin.proofs.walk_lemmas.Objects.{scan_told}
use Rattle.flutejoin.proofs.gaps_lemmas.ObjectsListed.{EndsIn}
use Rattle.flutejoin.proofs.walk.object_walk.end_object.Goals as goal

pub returns-in-NoInformation-clause-told : goal.returns-in-NoInformation-clause-told
returns-in-NoInformation-clause-told g c = λ at F before mine key objects progress all r heard first s k.
    let q = subst (λ x. StateIs key mine progress x) c.in-NoInformation.is s in
    (progress, no_information_told (record { all = all; rising = r }) heard first q, k)

pub returns-in-ConflictingInformation-clause-told :
    goal.returns-in-ConflictingInformation-clause-told
returns-in-ConflictingInformation-clause-told g c = λ at F before mine key objects progress all r
    heard first s k. let q = subst (λ x. StateIs key mine progress x) c.in-ConflictingInformation.is
    s in (progress, conflict_told (record { all = all; rising = r }) _ _ q, k)

pub returns-in_ok-pass-in-OneInformation-clause-told :
    goal.returns-in_ok-pass-in-OneInformation-clause-told
returns-in_ok-pass-in-OneInformation-clause-told g c = λ at F before mine key objects progress all r
    heard first s k. let h = subst (λ x. StateIs key mine progress x) c.in-OneInformation.is s in
    let t = c.in_ok-pass-in-OneInformation.ensures.passed at h.scanned objects h.scans tt h.free
    h.broken (subst (λ o. g.V.Visitor.Has at objects o c.args.visitor.now) h.so_far k) in
    let last : EndsIn F before mine = record { all = all; rising = r } in (
      Some (progress_of t.0),
      scan_told last h t.1 _
          (c.status.ensures t.0 t.2 F (scan_gave last h t.1)),
      t.3,
    )
