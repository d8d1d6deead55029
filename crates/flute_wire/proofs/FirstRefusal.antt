-- The first refusal that applies, from what each check of `read` found (specs/Refusals).
use Rattle.std.proofs.Common.{rules}
use Rattle.std.proofs.Common.{◌≡◌, ℕ, ◌+◌, ◌<◌, ◌⊎◌, List, [], length, cond}
use Rattle.std.proofs.Common.{eqb, Option, Some, None, inl, inr, refl, sym, ap, subst, ◌∙◌}
use Rattle.std.proofs.Common.{arith}
use Rattle.std.specs.Prelude.{IfSome, IsSomeAnd}
use Rattle.std.specs.Option.{option_to_list}
use Rattle.std.proofs.lemmas.Bool.{cases_lt}
use Rattle.flute_parts.specs.Information.{info_fault}
use Rattle.flute_parts.specs.declared.info.InfoFault.{InfoFault}
use Rattle.flute_wire.specs.declared.refusal.Refusal.{Refusal}
use Rattle.flute_wire.specs.declared.refusal.Refusal.TheVariants.{TooLong, TooShort, LctVersion}
use Rattle.flute_wire.specs.declared.refusal.Refusal.TheVariants.{HeaderLength, HeaderCut, NoTsi}
use Rattle.flute_wire.specs.declared.refusal.Refusal.TheVariants.{NoToi, Codepoint, ExtensionLength}
use Rattle.flute_wire.specs.declared.refusal.Refusal.TheVariants.{Repeated, FtiLength, Information}
use Rattle.flute_wire.specs.declared.refusal.Refusal.TheVariants.{NoInstance, FluteVersion}
use Rattle.flute_wire.specs.declared.refusal.Refusal.TheVariants.{ContentEncoded, PayloadIdCut}
use Rattle.flute_wire.specs.Header.{toi_in, extension_area, after_header}
use Rattle.flute_wire.specs.Extensions.{HeaderExtension, HasExtensions, bodies, ext_fti, ext_fdt}
use Rattle.flute_wire.specs.Extensions.{ext_cenc, fti_information, fdt_version, content_encoding}
use Rattle.flute_wire.specs.Extensions.{first}
use Rattle.flute_wire.specs.Refusals.{Applies, Carries, PassesUpTo, Refuses, rank}
use Rattle.flute_wire.specs.Walk.{Finds, RefusesFti, RefusesFdt}
use Rattle.flute_wire.proofs.Walking.{same_extensions}

-- the refusal of a place, but for the one that holds a fault
pub by_rank : ℕ → Refusal
by_rank n =
    cond (eqb n 1) TooLong (
    cond (eqb n 2) TooShort (
    cond (eqb n 3) LctVersion (
    cond (eqb n 4) HeaderLength (
    cond (eqb n 5) HeaderCut (
    cond (eqb n 6) NoTsi (
    cond (eqb n 7) NoToi (
    cond (eqb n 8) Codepoint (
    cond (eqb n 9) ExtensionLength (
    cond (eqb n 10) Repeated (
    cond (eqb n 11) FtiLength (
    cond (eqb n 13) NoInstance (
    cond (eqb n 14) FluteVersion (
    cond (eqb n 15) ContentEncoded (
    PayloadIdCut))))))))))))))

pub by_rank-rank : (r : Refusal) → (rank r ≡ 12 → ⊥) → by_rank (rank r) ≡ r
unfolding by_rank
by_rank-rank (Information f) other = absurd (other refl)
by_rank-rank another other = refl

pub is_information : (r : Refusal) → rank r ≡ 12 → (f : InfoFault) × (r ≡ Information f)
is_information (Information f) at = (f, refl)
is_information other at = absurd (omega arith)

-- one check more
pub passes_more : (n : ℕ) (d : List ℕ) (r : Refusal) → rank r ≡ n → (n ≡ 12 → ⊥)
    → PassesUpTo n d → (Applies r d → ⊥) → PassesUpTo (n + 1) d
passes_more n d r at other before not q lt applies = search rules

passes_information : (d : List ℕ) → PassesUpTo 12 d
    → ((f : InfoFault) → Applies (Information f) d → ⊥) → PassesUpTo 13 d
passes_information d before not q lt applies = elim (cases_lt (rank q) 12) [
  | inl below ↦ before q below applies
  | inr above ↦ let is = is_information q (omega arith) in not is.0
      (subst (λ (x : Refusal). Applies x d) is.1 applies)
]

-- what the extensions of a datagram are said to have, they have
pub carried : (d : List ℕ) (es : List HeaderExtension) → HasExtensions (extension_area d) es
    → (P : List HeaderExtension → Type 0) → Carries d P → P es
carried d es x P c = subst P (same_extensions (extension_area d) c.0 es c.1 x) c.2

one_at_most : (found : Option (List ℕ)) (bs : List (List ℕ)) → bs ≡ option_to_list found
    → 1 < length bs → ⊥
one_at_most x0 x1 x2 x3 = search rules

pub first_found : (found : Option (List ℕ)) (bs : List (List ℕ)) → bs ≡ option_to_list found
    → first bs ≡ found
first_found None bs is = ap first is
first_found (Some b) bs is = ap first is

none_found : (found : Option (List ℕ)) (bs : List (List ℕ)) → bs ≡ option_to_list found
    → bs ≡ [] → found ≡ None
none_found None bs is none = refl
none_found (Some b) bs is none = let e = sym none ∙ is in absurd cc

-- ---- the walk

pub found_in : (d : List ℕ) {area : List ℕ} {fti fdt cenc : Option (List ℕ)} → area ≡ extension_area
    d → Finds area fti fdt cenc → Finds (extension_area d) fti fdt cenc
found_in d {fti = fti} {fdt = fdt} {cenc = cenc} is f =
    subst (λ (a : List ℕ). Finds a fti fdt cenc) is f

pub passes_area : {d : List ℕ} {fti fdt cenc : Option (List ℕ)} → PassesUpTo 9 d
    → Finds (extension_area d) fti fdt cenc → PassesUpTo 11 d
passes_area {d = d} {fti = fti} {fdt = fdt} {cenc = cenc} before f =
    let nine = passes_more 9 d ExtensionLength refl (λ h. absurd (omega arith)) before
    (λ none. none f.extensions f.spelled) in passes_more 10 d Repeated refl
    (λ h. absurd (omega arith)) nine (λ c. elim (carried d f.extensions f.spelled (λ es.
    (1 < length (bodies ext_fti es)) ⊎
    ((1 < length (bodies ext_fdt es)) ⊎ (1 < length (bodies ext_cenc es)))) c) [
      | inl two ↦ search rules
      | inr rest ↦ search rules
    ])

-- a body that is found, in the words of the refusals
pub carries_found : (d : List ℕ) (het : ℕ) (found : Option (List ℕ))
    (es : List HeaderExtension) → HasExtensions (extension_area d) es
    → bodies het es ≡ option_to_list found → (P : List ℕ → Type 0) → IsSomeAnd found P
    → Carries d (λ es. IsSomeAnd (first (bodies het es)) P)
carries_found d het found es x is P h = search rules

pub found_carried : (d : List ℕ) (het : ℕ) (found : Option (List ℕ))
    (es : List HeaderExtension) → HasExtensions (extension_area d) es
    → bodies het es ≡ option_to_list found → (P : List ℕ → Type 0)
    → Carries d (λ es. IsSomeAnd (first (bodies het es)) P) → IsSomeAnd found P
found_carried d het found es x is P c =
    subst (λ (o : Option (List ℕ)). IsSomeAnd o P) (first_found found (bodies het es) is)
    (carried d es x (λ es. IsSomeAnd (first (bodies het es)) P) c)

-- a found body that has one property does not have the opposite
pub not_both : (found : Option (List ℕ)) (P Q : List ℕ → Type 0)
    (apart : (b : List ℕ) → P b → Q b → ⊥) → IfSome found P → IsSomeAnd found Q → ⊥
not_both None P Q apart h k = k
not_both (Some b) P Q apart h k = apart b h k

and_then : (found : Option (List ℕ)) (P Q : List ℕ → Type 0)
    → ((b : List ℕ) → P b → Q b) → IsSomeAnd found P → IsSomeAnd found Q
and_then None P Q f h = h
and_then (Some b) P Q f h = f b h

some_if : (found : Option (List ℕ)) (P : List ℕ → Type 0) → IsSomeAnd found P → IfSome found P
some_if x0 x1 x2 = search rules

-- ---- EXT_FTI

pub refuses_fti : {d : List ℕ} {fti fdt cenc : Option (List ℕ)} → PassesUpTo 11 d
    → Finds (extension_area d) fti fdt cenc → (r : Refusal) → RefusesFti fti r → Refuses d r
refuses_fti {d = d} {fti = fti} before f FtiLength h = search rules
refuses_fti {d = d} {fti = fti} before f (Information fault) h =
    record {
      applies = carries_found d ext_fti fti f.extensions f.spelled f.fti_is
          (λ body. info_fault (fti_information body) ≡ Some fault)
          (and_then fti (λ body. (length body ≡ 15)
          × (info_fault (fti_information body) ≡ Some fault))
          (λ body. info_fault (fti_information body) ≡ Some fault) (λ b p. p.1) h);
      first = passes_more 11 d FtiLength refl (λ e. absurd (omega arith)) before (λ c.
          not_both fti (λ body. (length body ≡ 15)
          × (info_fault (fti_information body) ≡ Some fault))
          (λ body. length body ≡ 15 → ⊥) (λ b p q. q p.0)
          (some_if fti (λ body. (length body ≡ 15)
          × (info_fault (fti_information body) ≡ Some fault)) h)
          (found_carried d ext_fti fti f.extensions f.spelled f.fti_is
          (λ body. length body ≡ 15 → ⊥) c));
    }
refuses_fti before f _ h = absurd h

pub passes_fti : {d : List ℕ} {fti fdt cenc : Option (List ℕ)} → PassesUpTo 11 d → Finds
    (extension_area d) fti fdt cenc → IfSome fti
    (λ body. (length body ≡ 15) × (info_fault (fti_information body) ≡ None)) → PassesUpTo 13 d
passes_fti {d = d} {fti = fti} before f taken =
    let twelve = passes_more 11 d FtiLength refl (λ e. absurd (omega arith)) before (λ c. not_both
    fti (λ body. (length body ≡ 15) × (info_fault (fti_information body) ≡ None))
    (λ body. length body ≡ 15 → ⊥) (λ b p q. q p.0) taken
    (found_carried d ext_fti fti f.extensions f.spelled f.fti_is (λ body. length body ≡ 15 → ⊥) c))
    in passes_information d twelve (λ fault c. not_both fti
    (λ body. (length body ≡ 15) × (info_fault (fti_information body) ≡ None))
    (λ body. info_fault (fti_information body) ≡ Some fault) (λ b p q. let e = sym p.1 ∙ q in cc)
    taken (found_carried d ext_fti fti f.extensions f.spelled f.fti_is
    (λ body. info_fault (fti_information body) ≡ Some fault) c))

-- ---- EXT_FDT

some_is : (found : Option (List ℕ)) (P : List ℕ → Type 0) → IsSomeAnd found P → found ≡ None → ⊥
some_is x0 x1 x2 x3 = search rules

not_here : (d : List ℕ) (fdt : Option (List ℕ)) (es : List HeaderExtension)
    → HasExtensions (extension_area d) es → bodies ext_fdt es ≡ option_to_list fdt
    → Carries d (λ es. bodies ext_fdt es ≡ []) → fdt ≡ None
not_here d fdt es x is c =
    none_found fdt (bodies ext_fdt es) is (carried d es x (λ es. bodies ext_fdt es ≡ []) c)

pub refuses_fdt : {d : List ℕ} {toi : ℕ} {fti fdt cenc : Option (List ℕ)} → toi ≡ toi_in d
    → PassesUpTo 13 d → Finds (extension_area d) fti fdt cenc → (r : Refusal)
    → RefusesFdt toi fdt r → Refuses d r
refuses_fdt {fdt = fdt} is before f NoInstance h = search rules
refuses_fdt {d = d} {fdt = fdt} is before f FluteVersion h = record {
  applies = (
    sym is ∙ h.0,
    carries_found d ext_fdt fdt f.extensions f.spelled f.fdt_is
        (λ body. fdt_version body ≡ 2 → ⊥) h.1,
  );
  first = passes_more 13 d NoInstance refl (λ e. absurd (omega arith)) before (λ a. some_is fdt
      (λ body. fdt_version body ≡ 2 → ⊥) h.1
      (not_here d fdt f.extensions f.spelled f.fdt_is a.1));
}
refuses_fdt is before f _ h = absurd h

pub passes_fdt : {d : List ℕ} {toi : ℕ} {fti fdt cenc : Option (List ℕ)} → toi ≡ toi_in d
    → PassesUpTo 13 d → Finds (extension_area d) fti fdt cenc
    → (toi ≡ 0 → IsSomeAnd fdt (λ body. fdt_version body ≡ 2)) → PassesUpTo 15 d
passes_fdt {d = d} {fdt = fdt} is before f taken =
    let fourteen = passes_more 13 d NoInstance refl (λ e. absurd (omega arith)) before (λ a. some_is
    fdt (λ body. fdt_version body ≡ 2) (taken (is ∙ a.0))
    (not_here d fdt f.extensions f.spelled f.fdt_is a.1)) in passes_more 14 d FluteVersion refl
    (λ e. absurd (omega arith)) fourteen (λ a. not_both fdt (λ body. fdt_version body ≡ 2)
    (λ body. fdt_version body ≡ 2 → ⊥) (λ b p q. q p)
    (some_if fdt (λ body. fdt_version body ≡ 2) (taken (is ∙ a.0))) (found_carried d ext_fdt fdt
    f.extensions f.spelled f.fdt_is (λ body. fdt_version body ≡ 2 → ⊥) a.1))

-- ---- EXT_CENC and the payload

pub refuses_cenc : {d : List ℕ} {fti fdt cenc : Option (List ℕ)} → PassesUpTo 15 d
    → Finds (extension_area d) fti fdt cenc
    → IsSomeAnd cenc (λ body. content_encoding body ≡ 0 → ⊥) → Refuses d ContentEncoded
refuses_cenc {d = d} {cenc = cenc} before f h = search rules

pub passes_cenc : {d : List ℕ} {fti fdt cenc : Option (List ℕ)} → PassesUpTo 15 d
    → Finds (extension_area d) fti fdt cenc
    → IfSome cenc (λ body. content_encoding body ≡ 0) → PassesUpTo 16 d
passes_cenc {d = d} {cenc = cenc} before f plain = passes_more 15 d ContentEncoded refl
    (λ e. absurd (omega arith)) before (λ c. not_both cenc (λ body. content_encoding body ≡ 0)
    (λ body. content_encoding body ≡ 0 → ⊥) (λ b p q. q p) plain (found_carried d ext_cenc cenc
    f.extensions f.spelled f.cenc_is (λ body. content_encoding body ≡ 0 → ⊥) c))

pub refuses_tail : {d tail : List ℕ} → tail ≡ after_header d → PassesUpTo 16 d
    → (0 < length tail) × (length tail < 4) → Refuses d PayloadIdCut
refuses_tail is before h =
    let len = ap length is in
    record { applies = (omega (arith, h.0), omega (arith, h.1)); first = before }
