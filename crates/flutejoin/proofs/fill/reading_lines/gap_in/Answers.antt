-- gap_in: the numbers of a gap, one after the other.
use Rattle.std.proofs.Common.{arith, refl}
use Rattle.flutejoin.specs.Lines.{reason_words}
use Rattle.flutejoin.proofs.fill_lemmas.ReadLines.{from_first, from_last, gap_is, gap_same}
use Rattle.flutejoin.proofs.fill_lemmas.ReadLines.{reason_stops}
use Rattle.flutejoin.proofs.fill.reading_lines.gap_in.Goals as goal
use Rattle.flutejoin.proofs.fill.reading_lines.gap_in.Goals.{else-sbn-via-then-sbn+then-first+else-last}
use Rattle.flutejoin.proofs.fill.reading_lines.gap_in.Goals.{else-sbn-via-then-sbn+else-first}
use Rattle.flutejoin.proofs.fill.reading_lines.gap_in.Goals.{else-sbn-via-else-sbn}

pub returns-in_default-clause-finds : goal.returns-in_default-clause-finds
returns-in_default-clause-finds c = λ g ids is. c.in_default.ensures.finds g.sbn (from_first g)
    (omega (arith, ids.0)) refl (gap_is _ g is)

pub returns-in_default-number_after-clause-finds : goal.returns-in_default-number_after-clause-finds
returns-in_default-number_after-clause-finds c = λ g ids is. let a = c.in-Some.ensures.finds g.sbn
    (from_first g) (omega (arith, ids.0)) refl (gap_is _ g is) in
    c.in_default-number_after.ensures.finds g.first (from_last g) (omega (arith, ids.1)) refl a.1

pub returns-in_default-number_after-2-clause-finds : goal.returns-in_default-number_after-2-clause-finds
returns-in_default-number_after-2-clause-finds c = λ g ids is. let a = c.in-Some.ensures.finds g.sbn
    (from_first g) (omega (arith, ids.0)) refl (gap_is _ g is) in
    let b = c.in-Some-number_after.ensures.finds g.first (from_last g) (omega (arith, ids.1)) refl
    a.1 in c.in_default-number_after-2.ensures.finds g.last (reason_words g.reason)
    (omega (arith, ids.2)) (reason_stops g.reason) b.1

pub returns-then-last-clause-finds : goal.returns-then-last-clause-finds
returns-then-last-clause-finds c = λ g ids is. let a = c.in-Some.ensures.finds g.sbn (from_first g)
    (omega (arith, ids.0)) refl (gap_is _ g is) in
    let b = c.in-Some-number_after.ensures.finds g.first (from_last g) (omega (arith, ids.1)) refl
    a.1 in
    let d = c.in-Some-number_after-2.ensures.finds g.last (reason_words g.reason)
    (omega (arith, ids.2)) (reason_stops g.reason) b.1 in gap_same g _ _ _ _ a.0 b.0 d.0
    (c.reason_of.ensures g.reason d.1)

pub returns-else-sbn-clause-finds : goal.returns-else-sbn-clause-finds
returns-else-sbn-clause-finds c = λ g ids is. let a = c.in-Some.ensures.finds g.sbn (from_first g)
    (omega (arith, ids.0)) refl (gap_is _ g is) in
    let b = c.in-Some-number_after.ensures.finds g.first (from_last g) (omega (arith, ids.1)) refl
    a.1 in
    let d = c.in-Some-number_after-2.ensures.finds g.last (reason_words g.reason)
    (omega (arith, ids.2)) (reason_stops g.reason) b.1 in elim c.else-sbn.branch [
      | else-sbn-via-then-sbn+then-first+else-last w ↦ omega (arith, d.0, ids.2, w.if-last.false)
      | else-sbn-via-then-sbn+else-first w ↦ omega (arith, b.0, ids.1, w.if-first.false)
      | else-sbn-via-else-sbn w ↦ omega (arith, a.0, ids.0, w.if-sbn.false)
    ]
