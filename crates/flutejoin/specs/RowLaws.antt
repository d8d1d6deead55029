-- Rows that were told one after another were told together.
use Rattle.std.proofs.Common.{ℕ, ◌+◌, List, [], ◌++◌, Option, refl, sym, ap, ◌∙◌, subst}
use Rattle.std.proofs.Common.{append_assoc, append-nil, arith}
use Rattle.std.proofs.lemmas.List.Sums.{sum_by-append}
use Rattle.flute_streams.specs.declared.merge.sides.Row.{Row}
use Rattle.flutejoin.specs.RowsTold.{AreFew, FailsToTell, HasRows, TakesRows, weight}
use Rattle.flutejoin.specs.declared.compare.compare_lines.CompareLines.{CompareLines}

pub fewer : (before more : List Row) → AreFew (before ++ more) → AreFew before
fewer before more few = omega (arith, sum_by-append weight before more, few)

module _ {A : Type 0} (written : A → Option (List ℕ)) (failures : A → ℕ) where
  pub takes_none : (v : CompareLines A) → TakesRows written failures v [] v
  takes_none v = record {
    style = refl;
    name = refl;
    quiet = refl;
    has = λ known before few h. subst (λ l. HasRows written known l v) (sym (append-nil before)) h;
  }

  pub takes_more : (s t u : CompareLines A) (first next : List Row)
      → TakesRows written failures s first t → TakesRows written failures t next u
      → TakesRows written failures s (first ++ next) u
  takes_more s t u first next p q = record {
    style = q.style ∙ p.style;
    name = q.name ∙ p.name;
    quiet = q.quiet ∙ p.quiet;
    has = λ known before few h.
        let is = append_assoc before first next in
        let all = subst AreFew (sym is) few in
        subst (λ l. HasRows written known l u) is
        (q.has known (before ++ first) all
        (p.has known before (fewer (before ++ first) next all) h));
  }

  pub fails_later : (s t u : CompareLines A) (first : List Row)
      → TakesRows written failures s first t → FailsToTell failures t u → FailsToTell failures s u
  fails_later s t u first p f = record {
    style = f.style ∙ p.style;
    name = f.name ∙ p.name;
    failed = f.failed ∙ ap (λ n. n + 1) p.quiet;
  }
