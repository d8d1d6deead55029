-- Whether bytes are a list of extensions is decided (specs/Extensions).
use Rattle.std.proofs.Common.{rules}
use Rattle.std.proofs.lemmas.Grind.{common_steps}
use Rattle.std.proofs.Common.{◌≡◌, ℕ, zero, suc, ◌-◌, ◌*◌, ◌<◌}
use Rattle.std.proofs.Common.{◌≤◌, ◌⊎◌, List, [], ◌∷◌, ◌++◌, length, take}
use Rattle.std.proofs.Common.{drop, inl, inr, refl, sym, ap, ◌∙◌, arith}
use Rattle.std.specs.List.{flat_map}
use Rattle.std.proofs.lemmas.Bool.{cases_lt}
use Rattle.std.proofs.lemmas.List.{length-drop, take-append-drop}
use Rattle.flute_wire.specs.Extensions.{HeaderExtension, HasExtensions, IsExtension}
use Rattle.flute_wire.specs.Extensions.{extension_bytes}
use Rattle.flute_wire.specs.Reading.{words_at}
use Rattle.flute_wire.proofs.Walking.{same_extension}

-- the words of the first extension
pub words_first : (het : ℕ) (bs : List ℕ) (f : HeaderExtension) (fs : List HeaderExtension)
    → HasExtensions (het ∷ bs) (f ∷ fs)
    → 4 * words_at het bs ≤ length (het ∷ bs) × (0 < words_at het bs)
words_first het bs f fs x = grind (arith, common_steps)

pub front : (het : ℕ) (bs : List ℕ) (k : ℕ) → words_at het bs ≡ k → 0 < k → 4 * k ≤ length
    (het ∷ bs) → IsExtension (record { het = het; body = take (4 * k - 1) bs })
front het bs k is some room = search rules

no_first : (het : ℕ) (bs : List ℕ)
    → (4 * words_at het bs ≤ length (het ∷ bs) × (0 < words_at het bs) → ⊥)
    → (es : List HeaderExtension) → HasExtensions (het ∷ bs) es → ⊥
no_first het bs none [] x = let e = x.joined in absurd cc
no_first het bs none (f ∷ fs) x = none (words_first het bs f fs x)

pub goes_on : (e : HeaderExtension) (bs rest : List ℕ) → bs ≡ extension_bytes e ++ rest →
    IsExtension e → (es : List HeaderExtension) → HasExtensions rest es → HasExtensions bs (e ∷ es)
goes_on e bs rest is h es x = search rules

stops : (e : HeaderExtension) (bs rest : List ℕ) → bs ≡ extension_bytes e ++ rest
    → IsExtension e → ((es : List HeaderExtension) → HasExtensions rest es → ⊥)
    → (es : List HeaderExtension) → HasExtensions bs es → ⊥
stops e bs rest is h none [] x = let n = sym is ∙ x.joined in absurd cc
stops e bs rest is h none (f ∷ fs) x =
    let s = same_extension e f rest (flat_map extension_bytes fs) h x.each.0 (sym is ∙ x.joined) in
    none fs (record { joined = s.1; each = x.each.1 })

pub decide_extensions : (n : ℕ) (bs : List ℕ) → length bs ≤ n
    → ((es : List HeaderExtension) × HasExtensions bs es)
    ⊎ ((es : List HeaderExtension) → HasExtensions bs es → ⊥)
decide_extensions n [] h = inl ([], record { joined = refl; each = tt })
decide_extensions zero (het ∷ bs) h = absurd (omega arith)
decide_extensions (suc n) (het ∷ bs) h =
    let k = words_at het bs in
    elim (cases_lt 0 k) [
      | inr none ↦ inr (no_first het bs (λ p. absurd (omega (arith, p.1))))
      | inl some ↦ elim (cases_lt (length (het ∷ bs)) (4 * k)) [
        | inl short ↦ inr (no_first het bs (λ p. absurd (omega (arith, p.0))))
        | inr room ↦ let e : HeaderExtension = record { het = het; body = take (4 * k - 1) bs }
            in
            let is : het ∷ bs ≡ extension_bytes e ++ drop (4 * k - 1) bs = ap
            (λ (l : List ℕ). het ∷ l) (sym (take-append-drop (4 * k - 1) bs)) in
            let whole : IsExtension e = front het bs k refl some room in
            elim (decide_extensions n (drop (4 * k - 1) bs)
            (omega (arith, length-drop (4 * k - 1) bs))) [
              | inl more ↦ inl (
                e ∷ more.0,
                goes_on e (het ∷ bs) (drop (4 * k - 1) bs) is
                    whole more.0 more.1,
              )
              | inr none ↦ inr (stops e (het ∷ bs) (drop (4 * k - 1) bs) is whole none)
            ]
      ]
    ]
