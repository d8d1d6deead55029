use Rattle.std.proofs.Common.{arith, ap, ◌<◌}
use Rattle.std.proofs.lemmas.Grind.{common_steps}
use Rattle.flute_asides.proofs.Copies.{known-start, part-none}
use Rattle.flute_asides.proofs.pouring.copy.Goals as goal

pub returns-in_default-clause-part : goal.returns-in_default-clause-part
returns-in_default-clause-part g c t has none =
    let some : 0 < c.args.count = grind (arith, common_steps) in
    part-none _ _ _ some has

pub returns-clause-copied : goal.returns-clause-copied
returns-clause-copied g c t has = c.copy_on.ensures.copied _
    (known-start _ _ _ _ _ t (c.in-Ok.ensures.rewound t) (ap (λ r. r.now) (c.rewind.ensures.same t))) has

pub returns-clause-part : goal.returns-clause-part
returns-clause-part g c t has = c.copy_on.ensures.part _
    (known-start _ _ _ _ _ t (c.in-Ok.ensures.rewound t) (ap (λ r. r.now) (c.rewind.ensures.same t))) has

pub returns-clause-failed : goal.returns-clause-failed
returns-clause-failed g c t has = c.copy_on.ensures.failed _
    (known-start _ _ _ _ _ t (c.in-Ok.ensures.rewound t) (ap (λ r. r.now) (c.rewind.ensures.same t))) has
