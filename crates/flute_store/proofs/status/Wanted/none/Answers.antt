use Rattle.std.proofs.Common.{refl}
use Rattle.flute_store.proofs.HowMany.{none-counted}
use Rattle.flute_store.proofs.status.Wanted.none.Goals as goal

pub returns : goal.returns
returns c = none-counted _ refl refl refl
