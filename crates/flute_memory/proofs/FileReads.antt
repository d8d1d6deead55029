-- What a read gives of the bytes of a file.
use Rattle.std.proofs.Common.{◌≡◌, ◌++◌, ◌+◌, ◌<◌, ◌≤◌, ℕ, List, [], length, take, drop, sym, ap, ◌∙◌, arith, length-append, length-drop}
use Rattle.std.proofs.lemmas.List.{drop-drop, length-take-le, take-append-drop}
use Rattle.std.proofs.Math.Seq.{take-append_seam}

pub reads : (all given buffer : List ℕ) (at n : ℕ) → given ≡ take n (drop at all)
    → n ≤ length (drop at all) → (n ≡ 0 → length buffer ≡ 0)
    → (drop at all ≡ take n (given ++ drop n buffer) ++ drop (at + n) all)
    × (n ≡ 0 → 0 < length (given ++ drop n buffer) → drop (at + n) all ≡ [])
reads all given buffer at n is within none =
    let count : length given ≡ n = ap length is ∙ length-take-le n (drop at all) within in (
      sym (ap (λ l. l ++ drop (at + n) all)
          (ap (λ k. take k (given ++ drop n buffer)) (sym count)
          ∙ take-append_seam given (drop n buffer) ∙ is)
          ∙ ap (λ l. take n (drop at all) ++ l) (sym (drop-drop n at all))
          ∙ take-append-drop n (drop at all)),
      λ z some. absurd (omega (arith, some, length-append given (drop n buffer), length-drop n buffer, count, z, none z)),
    )
