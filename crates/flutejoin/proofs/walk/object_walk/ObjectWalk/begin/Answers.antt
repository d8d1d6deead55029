-- ObjectWalk::begin: the object before is ended.
use Rattle.std.proofs.Common.{None, []}
use Rattle.flute_parts.proofs.Public.{rising-front}
use Rattle.flutejoin.proofs.walk_lemmas.Objects.{begun}
use Rattle.flutejoin.proofs.walk.object_walk.ObjectWalk.begin.Goals as goal

pub returns-clause-begun : goal.returns-clause-begun
returns-clause-begun g c = λ at F f r l first e s n. let q = c.in_ok-close.ensures.closed at F
    (rising-front F _ r) l in record {
      objects = q.objects;
      progress = None;
      walks = begun f _ q.told q.few first e s n;
      has = q.has;
    }
