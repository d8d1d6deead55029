-- push_reasons: one line more, and all of them.
use Rattle.std.proofs.Common.{rules}
use Rattle.std.proofs.Common.{◌≡◌, ◌∙◌, ℕ, ◌+◌, ◌<◌, List, [], ◌∷◌, ◌++◌, length, get_or, take, ap, refl}
use Rattle.std.proofs.Common.{append_assoc, append-nil, arith}
use Rattle.std.specs.List.{flat_map}
use Rattle.std.proofs.lemmas.Grind.{flat_map-append}
use Rattle.std.proofs.lemmas.List.{take_all, take_more}
use Rattle.flute_wire.specs.RefusalWords.{refusals}
use Rattle.flutejoin.specs.Refused.{reason_line, reason_lines}
use Rattle.flutejoin.proofs.lines.report.Report.push_reasons.Goals as goal

-- the lines of the elements of a list so far
lines_more : {X : Type 0} {now new : List ℕ} (f : X → List ℕ) (xs : List X) (old : List ℕ) (i : ℕ)
    (d : X) → i < length xs → now ≡ old ++ flat_map f (take i xs) → new ≡ now ++ f (get_or xs i d)
    → new ≡ old ++ flat_map f (take (i + 1) xs)
lines_more f xs old i d within so_far more =
    rw (
      more,
      so_far,
      take_more xs i d within,
      flat_map-append f (take i xs) (get_or xs i d ∷ []),
      append-nil (f (get_or xs i d)),
    ) (append_assoc old (flat_map f (take i xs)) (f (get_or xs i d)))

pub loop-why-preserved : goal.loop-why-preserved
loop-why-preserved c = record {
  items = refl;
  text = lines_more (reason_line c.args.reasons.now) refusals c.args.self.now
      c.loop-why.why-index _ c.loop-why-test.true c.loop-why.invariant.text c.push_reason.ensures.text;
  len = omega (arith, c.loop-why.invariant.len, c.push_reason.ensures.len);
}

pub returns-clause-text : goal.returns-clause-text
unfolding reason_lines
returns-clause-text c = c.loop-why.invariant.text
    ∙ ap (λ l. c.args.self.now ++ flat_map (reason_line c.args.reasons.now) l)
    (take_all c.loop-why.why-index refusals (omega (arith, c.loop-why-test.false)))
