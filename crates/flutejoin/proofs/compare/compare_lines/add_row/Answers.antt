-- add_row: a row of another session than the last begins new sums.
use Rattle.std.proofs.Common.{◌≡◌, ◌∙◌, false, ap, sym, refl, rules}
use Rattle.std.specs.declared.cmp.Ordering.{Ordering}
use Rattle.std.specs.declared.cmp.Ordering.TheVariants.{Less, Equal, Greater}
use Rattle.std.specs.Ordering.{is_eq}
use Rattle.flutejoin.specs.CompareSums.{no_sums, sums_after, with_row}
use Rattle.flutejoin.proofs.compare.compare_lines.add_row.Goals as goal
use Rattle.flutejoin.proofs.compare.compare_lines.add_row.Goals.{in-Some+in_default-cmp, in_default}

is_other : (o : Ordering) → (o ≡ Equal → ⊥) → is_eq o ≡ false
is_other Less h = refl
is_other Equal h = absurd (h refl)
is_other Greater h = refl

pub returns-clause-sums : goal.returns-clause-sums
returns-clause-sums g c =
    let session = c.args.row.now.key.session in
    let new : sums_after c.args.sums.now session ≡ no_sums session = elim c.match-sums.branch [
      | in-Some+in_default-cmp w ↦ let other = is_other _ w.in_default-cmp.not-Equal in
          search (rules, other)
      | in_default w ↦ search rules
    ] in
    c.with-2.ensures ∙ ap (λ s. with_row s c.args.row.now) (c.new.ensures ∙ sym new)
