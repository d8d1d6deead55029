-- LowestValue::joined: one value more, compared by its bytes where they lie in memory.
use Rattle.std.proofs.Common.{rules}
use Rattle.flute_streams.proofs.Common.{sym, ◌∙◌}
use Rattle.flute_streams.proofs.merge_lemmas.Places.{joins-by, joins-conflict, not-empty}
use Rattle.flute_streams.proofs.merge_lemmas.Places.{spelled-at, spelled-same, stands-within}
use Rattle.flute_streams.specs.Lowest.{first_at}
use Rattle.flute_streams.proofs.merge.lowest.LowestValue.joined.Goals.{then-is_empty, else-is_empty}
use Rattle.flute_streams.proofs.merge.lowest.LowestValue.joined.Goals.{then-is_empty-2}
use Rattle.flute_streams.proofs.merge.lowest.LowestValue.joined.Goals.{else-is_empty-2}
use Rattle.flute_streams.proofs.merge.lowest.LowestValue.joined.Goals as goal

pub returns-then-self : goal.returns-then-self
returns-then-self g c = search (rules, joins-conflict)

pub returns : goal.returns
returns g c =
    let b = g.G.Streams.behaviour in
    let xs = g.G.Streams.streams c.args.streams.now in
    let l = c.args.self in
    let within = stands-within b xs l c.requires.stands in
    let there = stands-within b xs (first_at c.args.number)
    (c.requires.stands.0, c.requires.here ∙ c.requires.stands.1) in joins-by b xs l c.args.number
    c.if-is_empty-2.same c.if-self.false c.requires.here (λ g' f e d. elim c.if-is_empty-2.branch [
      | then-is_empty-2 w ↦ w.same-is ∙ w.hold_same_facts-same.ensures g' f e d
      | else-is_empty-2 w ↦ let one = spelled-at b xs l.number c.requires.spelled within
          c.requires.own in
          let other = spelled-at b xs c.args.number c.requires.spelled there c.spelled-other.ensures
          in elim c.if-is_empty.branch [
            | then-is_empty v ↦ let t = v.value-is ∙ v.if-is_empty.true in
                let n = w.if-is_empty-2.false in
                absurd cc
            | else-is_empty v ↦ w.same-is ∙ w.same_bytes-same.ensures ∙ spelled-same g' f one other
                (not-empty c.is_empty.ensures v.if-is_empty.false) (not-empty
                v.is_empty-else-is_empty.ensures (sym v.value-is ∙ w.if-is_empty-2.false)) e d
          ]
    ])
