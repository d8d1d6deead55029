-- A datagram has one packet or one refusal: two right results of `read` are equal.
use Rattle.std.proofs.Common.{rules}
use Rattle.std.proofs.Common.{◌≡◌, ℕ, List, Option, Some, None, Result, Ok, Err, inl, inr}
use Rattle.std.proofs.Common.{sym, ap, subst, ◌∙◌}
use Rattle.std.specs.Prelude.{IfOk, IfErr, IsErrAnd, IsSomeAnd, ◌↔◌}
use Rattle.std.proofs.lemmas.Result.{err_from_is_err_and}
use Rattle.std.proofs.lemmas.Bool.{cases_eq}
use Rattle.flute_parts.specs.Information.{info_fault}
use Rattle.flute_parts.specs.declared.info.InfoFault.{InfoFault}
use Rattle.flute_wire.specs.declared.refusal.Refusal.{Refusal}
use Rattle.flute_wire.specs.declared.refusal.Refusal.TheVariants.{Information}
use Rattle.flute_wire.specs.Extensions.{bodies, ext_fti, fti_information, first}
use Rattle.flute_wire.specs.Content.{Content}
use Rattle.flute_wire.specs.Datagram.{Spells}
use Rattle.flute_wire.specs.Refusals.{Applies, Refuses, rank}
use Rattle.flute_wire.proofs.FirstRefusal.{is_information, carried}
use Rattle.flute_wire.proofs.OneReading.{one_packet, none_applies}

abbrev Answer : Type 0
Answer = Result Content Refusal

ok_is : {p q : Content} → (let a : Answer = Ok p in a) ≡ Ok q → p ≡ q
ok_is e = cc

err_is : {q r : Refusal} → (let a : Answer = Err q in a) ≡ Err r → q ≡ r
err_is e = cc

one_fault : (o : Option (List ℕ)) (f g : InfoFault)
    → IsSomeAnd o (λ body. info_fault (fti_information body) ≡ Some f)
    → IsSomeAnd o (λ body. info_fault (fti_information body) ≡ Some g) → f ≡ g
one_fault None f g h k = absurd h
one_fault (Some b) f g h k = let e = sym h ∙ k in cc

same_rank : (d : List ℕ) (q r : Refusal) → Refuses d q → Refuses d r → rank q ≡ rank r
same_rank d q r a b = search rules

same_information : (d : List ℕ) (f g : InfoFault) → Applies (Information f) d
    → Applies (Information g) d → f ≡ g
same_information d f g a b = one_fault (first (bodies ext_fti a.0)) f g a.2 (carried d a.0 a.1 (λ
    es. IsSomeAnd (first (bodies ext_fti es)) (λ body. info_fault (fti_information body) ≡ Some g))
    b)

-- one refusal at most is the first that applies
pub one_refusal : (d : List ℕ) (q r : Refusal) → Refuses d q → Refuses d r → q ≡ r
one_refusal d q r a b =
    let same = same_rank d q r a b in
    elim (cases_eq (rank q) 12) [
      | inl at ↦ let f = is_information q at in
          let g = is_information r (sym same ∙ at) in
          f.1 ∙ ap (λ (x : InfoFault). Information x) (same_information d f.0 g.0
          (subst (λ (x : Refusal). Applies x d) f.1 a.applies)
          (subst (λ (x : Refusal). Applies x d) g.1 b.applies)) ∙ sym g.1
      | inr other ↦ search rules
    ]

pub exact_packet : (d : List ℕ) (result : Result Content Refusal) → IfOk result (λ p. Spells d p) →
    IfErr result (λ r. Refuses d r) → (p : Content) → (result ≡ Ok p) ↔ Spells d p
exact_packet d (Ok q) s t p = (
  (λ e. subst (λ (x : Content). Spells d x) (ok_is e) s),
  (λ h. ap (λ (x : Content). Ok x) (one_packet d q p s h)),
)
exact_packet d (Err r) s t p = ((λ e. absurd cc), (λ h. absurd (none_applies d p h r t.applies)))

pub exact_refusal : (d : List ℕ) (result : Result Content Refusal) → IfOk result (λ p. Spells d p) →
    IfErr result (λ r. Refuses d r) → (r : Refusal) → (result ≡ Err r) ↔ Refuses d r
exact_refusal d (Ok p) s t r = ((λ e. absurd cc), (λ h. absurd (none_applies d p s r h.applies)))
exact_refusal d (Err q) s t r = search (rules, err_is, one_refusal)

-- all that `read` ensures of its result
abbrev pub IsExact : List ℕ → Result Content Refusal → Type 0
IsExact d result = record {
  spelled : IfOk result (λ p. Spells d p);
  refused : IfErr result (λ r. Refuses d r);
  packet : (p : Content) → (result ≡ Ok p) ↔ Spells d p;
  refusal : (r : Refusal) → (result ≡ Err r) ↔ Refuses d r;
}

-- a packet that the datagram spells is exact, and so is a refusal that is its first
pub from_spelled : {d : List ℕ} {p : Content} → Spells d p → IsExact d (Ok p)
from_spelled s = record {
  spelled = s;
  refused = tt;
  packet = exact_packet _ _ s tt;
  refusal = exact_refusal _ _ s tt;
}

pub from_refused : {d : List ℕ} {r : Refusal} → Refuses d r → IsExact d (Err r)
from_refused h = record {
  spelled = tt;
  refused = h;
  packet = exact_packet _ _ tt h;
  refusal = exact_refusal _ _ tt h;
}

-- a `?` passes the refusal on
pub passed_on : {d : List ℕ} {r : Refusal} (result : Result Content Refusal)
    → IsErrAnd result (λ q. q ≡ r) → Refuses d r → IsExact d result
passed_on {d = d} result e h =
    let p = err_from_is_err_and result e in
    rw (p.1, p.2) (from_refused h)
