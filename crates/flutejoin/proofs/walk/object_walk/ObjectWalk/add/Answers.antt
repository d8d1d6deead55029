-- ObjectWalk::add: the state after the next fact, of a conflict of information.
use Rattle.std.proofs.Common.{None, [], ◌∷◌, ap, sym, subst}
use Rattle.flute_parts.specs.Addresses.{address, fact_of}
use Rattle.flutejoin.specs.Told.{conflict_in}
use Rattle.flutejoin.specs.Walk.{StateIs}
use Rattle.flutejoin.specs.declared.walk.object_walk.ObjectState.TheVariants.{ConflictingInformation}
use Rattle.flutejoin.proofs.walk_lemmas.Objects.{first_information, begins_conflict}
use Rattle.flutejoin.proofs.walk.object_walk.ObjectWalk.add.Goals as goal

pub returns-in-InfoConflict-clause-added : goal.returns-in-InfoConflict-clause-added
returns-in-InfoConflict-clause-added g c = λ at F r l.
    let key = c.in-InfoConflict.key in
    let fact = fact_of c.args.fact.now in
    let is = ap fact_of c.in-InfoConflict.is in
    c.begin.ensures.begun at F fact r l (first_information F _ _ r (ap address is)) (ap (λ f. (address f).key) is)
    (subst (λ f. StateIs key (f ∷ []) None ConflictingInformation) (sym is)
    (begins_conflict _)) (sym (ap (conflict_in key) is))
