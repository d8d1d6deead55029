-- pass: the gaps that a scan gives before what comes next, and how that is passed (specs/Progress).
use Rattle.std.proofs.Common.{◌≡◌, ℕ, List, [], ◌∷◌, ◌++◌, Option, Some, None, refl, sym, ap, ◌∙◌}
use Rattle.std.proofs.Common.{subst, append-nil, inl, inr}
use Rattle.std.specs.Prelude.{◌⊎◌, IfSome, option_map}
use Rattle.std.specs.Borrow.{Bor}
use Rattle.flute_parts.specs.Facts.{IsRising}
use Rattle.flute_parts.specs.declared.symbol_id.SymbolId.{SymbolId}
use Rattle.flute_parts.specs.declared.fact.Fact.{Fact}
use Rattle.flute_store.specs.declared.gap.Gap.{Gap}
use Rattle.flute_store.specs.declared.turn.Turn.{Turn}
use Rattle.flute_store.specs.Extract.{IsNotWhole}
use Rattle.flute_store.specs.Scan.{Scanned, next_fact, coming_fact, value_of, CanFollow, CanCome}
use Rattle.flute_store.specs.Scan.{Turned, GaveGap, Follows, PassedNext}
use Rattle.flute_store.specs.Scans.{ScanState, Scans}
use Rattle.flutejoin.specs.Progress.{HasGap, IsBroken, PassesOn, Progress, lacking, progress_of}
use Rattle.flutejoin.specs.Progress.{value_in, with_value}

abbrev Next : Type 0
Next = Option (SymbolId × Option (Bor (List ℕ)))

-- gaps were given, and nothing was passed
pub record Gave (s : Scanned) (next : Option (SymbolId × Option (Bor (List ℕ)))) (scan : ScanState)
    : Type 0 where
  pub t : Scanned
  pub scans : Scans scan t
  pub same_key : t.key ≡ s.key
  pub same_info : t.info ≡ s.info
  pub same_facts : t.facts ≡ s.facts
  pub comes : CanCome t next
  pub broken : t.bytes ≡ None → (F : List Fact) → Follows s next F → HasGap F s.key

abbrev pub gave_none : (s : Scanned) (next : Next) (scan : ScanState) → Scans scan s
    → s.coming ≡ None → (s.bytes ≡ None → IsBroken s.key s.facts) → Gave s next scan
gave_none s next scan h e b = record {
  t = s;
  scans = h;
  same_key = refl;
  same_info = refl;
  same_facts = refl;
  comes = subst (λ (x : Option (Option Fact)). IfSome x
      (λ coming. coming ≡ coming_fact s.key next)) (sym e) tt;
  broken = λ none F f. b none F f.before f.rest f.all f.rising;
}

passes_same : (s t : Scanned) (next : Next) → t.key ≡ s.key → t.facts ≡ s.facts → CanFollow s next
    → CanFollow t next
passes_same s t None k f r = tt
passes_same s t (Some n) k f r = rw k (subst (λ x. IsRising (x ++ next_fact s.key n ∷ [])) (sym f) r)

pub can_pass : {s : Scanned} {next : Next} {scan : ScanState} (h : Gave s next scan)
    → CanFollow s next → CanFollow h.t next
can_pass {s} {next} h r = passes_same s h.t _ h.same_key h.same_facts r

-- what is not whole is shown by its first symbol that is not held so
first_shows : (o : Option (List ℕ)) {A P : Type 0} → (o ≡ None → P) → (A → P)
    → IfSome o (λ b. A) → P
first_shows None f g h = f refl
first_shows (Some b) f g h = g h

module _ {s : Scanned} {next : Next} {scan : ScanState} (h : Gave s next scan) where
  follows_on : (F : List Fact) → Follows s next F → Follows h.t next F
  follows_on F f = record {
    before = f.before;
    rest = f.rest;
    all = cc;
    rising = f.rising;
    come = rw h.same_key f.come;
  }

  -- the object has a gap, if that is shown now or was before
  pub shown : (first : SymbolId)
      → IfSome h.t.bytes (λ b. (F : List Fact) → Follows h.t next F → IsNotWhole F h.t.key first)
      → (F : List Fact) → Follows s next F → HasGap F s.key
  shown first now F f = first_shows _ (λ e. h.broken e F f)
      (λ show. (first, rw (← h.same_key) (show F (follows_on F f)))) now

  abbrev pub gave_more : {scan' : ScanState} {gap : Gap}
      → (u : Scanned) × GaveGap h.t next gap u × Scans scan' u → Gave s next scan'
  gave_more {gap = gap} n =
      let u = n.0 in
      let now = n.1.now in
      record {
        t = u;
        scans = n.2;
        same_key = ap (λ (x : Scanned). x.key) now ∙ h.same_key;
        same_info = ap (λ (x : Scanned). x.info) now ∙ h.same_info;
        same_facts = ap (λ (x : Scanned). x.facts) now ∙ h.same_facts;
        comes =
            subst (λ (x : Option (Option Fact)). IfSome x (λ coming. coming ≡ coming_fact u.key next))
            (sym (ap (λ (x : Scanned). x.coming) now))
            (ap (λ k. coming_fact k next) (sym (ap (λ (x : Scanned). x.key) now)));
        broken = λ none F f. shown _ n.1.first F f;
      }

none_mapped : (g : List ℕ → List ℕ) (o : Option (List ℕ)) → option_map g o ≡ None → o ≡ None
none_mapped g None e = refl
none_mapped g (Some b) e = absurd cc

module _ {s : Scanned} {n : SymbolId × Option (Bor (List ℕ))} {scan : ScanState}
    (h : Gave s (Some n) scan) where
  passes_next : {u : Scanned} (bytes : Option (List ℕ)) → PassedNext h.t n bytes u
      → (u.bytes ≡ None → (F : List Fact) → Follows s (Some n) F → HasGap F s.key)
      → PassesOn s (Some n) u
  passes_next _ p b = record { passed = (cc, cc, cc); info = cc; broken = b }

-- what a turn tells, if it is no gap
abbrev pub told_by : Turn → Next → Progress → Progress
told_by Turn.Fitting (Some n) p = with_value (value_of n) p
told_by Turn.Wanted next p = lacking p
told_by turn next p = p

-- a turn that is no gap passes what comes next, and tells so
pub turned : {s : Scanned} (next : Next) {scan : ScanState} (turn : Turn) (h : Gave s next scan)
    {u : Scanned} → Turned h.t next turn u → ((gap : Gap) → turn ≡ Turn.Gap gap → ⊥)
    → PassesOn s next u × (progress_of u ≡ told_by turn next (progress_of h.t))
turned _ (Turn.Gap gap) h p none = absurd (none gap refl)
turned (Some n) Turn.Fitting h p _ =
    (passes_next h _ p (λ e. h.broken (none_mapped _ _ (sym (ap (λ x. x.bytes) p.now) ∙ e))), cc)
turned (Some n) Turn.Passed h p _ = (passes_next h _ p (λ e. h.broken (cc)), cc)
turned (Some n) Turn.Wanted h p _ = (passes_next h _ p.0 (λ e. shown h _ p.1), cc)
turned (Some n) Turn.End h p _ = absurd p
turned None Turn.End h p _ =
    (record { passed = (cc, cc, p.1); info = cc; broken = λ e. h.broken (cc) }, cc)
turned None Turn.Fitting h p _ = absurd p
turned None Turn.Passed h p _ = absurd p
turned None Turn.Wanted h p _ = absurd p

-- nothing is told of a symbol that the partition does not have, nor of the end
pub told_none : (turn : Turn) (next : Next) (p : Progress)
    → (turn ≡ Turn.Passed) ⊎ (turn ≡ Turn.End) → told_by turn next p ≡ p
told_none _ next p (inl e) = ap (λ x. told_by x next p) e
told_none _ next p (inr e) = ap (λ x. told_by x next p) e

pub no_gap : (turn : Turn) → (turn ≡ Turn.Passed) ⊎ (turn ≡ Turn.End) → (gap : Gap)
    → turn ≡ Turn.Gap gap → ⊥
no_gap turn (inl e) gap is = absurd cc
no_gap turn (inr e) gap is = absurd cc

pub value_told : (id : SymbolId) (v : Option (Bor (List ℕ))) → value_of (id, v) ≡ value_in v
value_told id None = refl
value_told id (Some bytes) = refl

-- no value is no more
pub with_nothing : (p : Progress) → with_value [] p ≡ p
with_nothing p =
    ap (λ x. record p { bytes = x }) (nothing_more _)
  where
    nothing_more : (o : Option (List ℕ)) → option_map (λ (x : List ℕ). x ++ []) o ≡ o
    nothing_more None = refl
    nothing_more (Some x) = ap Some (append-nil x)
