-- ObjectWalk::begin_known: the object before is ended, and this one begun.
use Rattle.std.proofs.Common.{Some, [], refl}
use Rattle.flute_parts.specs.declared.fact.Fact.TheVariants.{Info}
use Rattle.flute_parts.proofs.Public.{rising-front}
use Rattle.flutejoin.specs.Progress.{at_start}
use Rattle.flutejoin.proofs.walk_lemmas.Objects.{begins_scan, begun, first_information}
use Rattle.flutejoin.proofs.walk.object_walk.ObjectWalk.begin_known.Goals as goal

pub returns-clause-begun : goal.returns-clause-begun
returns-clause-begun g c = λ at F r l. let key = c.args.key.now in
    let info = c.args.info.now in
    let f = Info key info in
    let q = c.in_ok-close.ensures.closed at F (rising-front F _ r) l in
    record {
      objects = q.objects;
      progress = Some (at_start key info);
      walks = begun f _ q.told q.few (first_information F f _ r refl) refl
          (begins_scan _ _ _ c.new.ensures) refl;
      has = c.in_ok-begins.ensures.told at q.objects q.has;
    }
