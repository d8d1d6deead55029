-- write_store: a store that is written entry by entry.
use Rattle.std.proofs.Common.{rules}
use Rattle.flute_journal.proofs.Common.{◌≡◌, ℕ, ◌+◌, Bool, true, List, [], ◌∷◌, ◌++◌, length}
use Rattle.flute_journal.proofs.Common.{Option, sym, ap, ◌∙◌, subst, append_assoc, append-nil}
use Rattle.flute_journal.proofs.Common.{arith, flat_map, AllByRecursion, flat_map-append}
use Rattle.flute_journal.proofs.Common.{length-append, flat_map_more, Fact, IsRising, AppendsPart}
use Rattle.flute_journal.proofs.Common.{rising_unique, AppendsPart-first, header, entry, end}
use Rattle.flute_journal.proofs.Common.{spelling, IsFact, Journal, Written, PutsBytes}
use Rattle.flute_journal.proofs.{Each.{all_more}, writers_lemmas.WrittenSoFar.{written-more}}

-- some of these facts are left; the others, so many, were written after the header, as far as the
-- sink took them
pub record Saved (facts left : List Fact) (failed : Bool) (old now : Option (List ℕ))
    (count : ℕ) : Type 0 where
  pub done : List Fact
  pub parts : facts ≡ done ++ left
  pub valid : AllByRecursion IsFact done
  pub counted : count ≡ length done
  pub written : Written failed old now (header ++ flat_map entry done)

pub saved-next : {facts left rest : List Fact} {b : Bool} (d : Bool) {u v : Option (List ℕ)}
    (w : Option (List ℕ)) {count : ℕ} {f : Fact} → Saved facts left b u v count → left ≡ f ∷ rest →
    IsFact f → PutsBytes b d v w (entry f) → Saved facts rest d u w (count + 1)
saved-next {rest = rest} {b = b} d {u = u} {v = v} w {f = f} s e valid h = record {
  done = s.done ++ f ∷ [];
  parts = s.parts ∙ ap (λ (x : List Fact). s.done ++ x) e ∙ sym (append_assoc s.done (f ∷ []) rest);
  valid = all_more IsFact s.done f s.valid valid;
  counted = omega (arith, s.counted, length-append s.done (f ∷ []));
  written = subst (Written d u w) (flat_map_more entry header s.done f)
      (written-more b d u v w (header ++ flat_map entry s.done) (entry f) (s.written, h));
}

spelled : (done left : List Fact) (n : ℕ) → header ++ flat_map entry (done ++ left) ++ end n ≡
    (header ++ flat_map entry done) ++ (flat_map entry left ++ end n)
spelled done left n = simp (flat_map-append, append_assoc)

-- where the sink has failed, a part of the spelling was written
pub saved-cut : (facts left : List Fact) (b : Bool) (u v : Option (List ℕ)) (count : ℕ)
    → Saved facts left b u v count → b ≡ true → AppendsPart u v (spelling facts)
saved-cut facts left b u v count s e =
    let n = length facts in
    let part = AppendsPart-first u v (header ++ flat_map entry s.done)
    (flat_map entry left ++ end n)
    (subst (λ x. Written x u v (header ++ flat_map entry s.done)) e s.written) in
    subst (AppendsPart u v) (sym (spelled s.done left n)
    ∙ ap (λ (x : List Fact). header ++ flat_map entry x ++ end n) (sym s.parts)) part

pub saved-all : {facts left : List Fact} {b : Bool} (d : Bool) {u v : Option (List ℕ)}
    (w : Option (List ℕ)) {count : ℕ}
    → Saved facts left b u v count → left ≡ [] → PutsBytes b d v w (end count)
    → Written d u w (spelling facts) × (count ≡ length facts) × AllByRecursion IsFact facts
saved-all {facts = facts} {left = left} {b = b} d {u = u} {v = v} w {count = count} s e h =
    let whole : s.done ≡ facts = sym (append-nil s.done) ∙ ap (λ (x : List Fact). s.done ++ x)
    (sym e) ∙ sym s.parts in
    let counted : count ≡ length facts = s.counted ∙ ap length whole in
    let written : Written d u w ((header ++ flat_map entry s.done) ++ end count) = written-more b d
    u v w (header ++ flat_map entry s.done) (end count) (s.written, h) in (
      subst
          (λ (x : List ℕ). Written d u w x) (λ i. (header ++ flat_map entry (whole i)) ++ end (counted i))
          written,
      counted,
      subst (AllByRecursion IsFact) whole s.valid,
    )

-- rising facts have no other journal
pub only-spelling : (facts : List Fact) → IsRising facts → (bytes : List ℕ)
    → Journal bytes facts → bytes ≡ spelling facts
only-spelling facts rising bytes j = search (rules, rising_unique)
