-- bytes_of: its loop over the store's facts.
use Rattle.std.proofs.Common.{◌≡◌, ◌∙◌, ◌+◌, ◌-◌, ◌^◌, ◌<◌, ℕ, List, [], ◌∷◌, Option, Some, ap, arith, min}
use Rattle.std.proofs.Common.{sym}
use Rattle.flute_parts.specs.Addresses.{address}
use Rattle.flute_parts.specs.declared.address.Address.{Address}
use Rattle.flute_parts.specs.declared.fact.Fact.{Fact}
use Rattle.flute_parts.specs.declared.key.Key.{Key}
use Rattle.flutejoin.specs.HeldSizes.{begun_size, fact_size, held_size, size_after}
use Rattle.flutejoin.proofs.join.held_size.bytes_of.Goals as goal

-- the first of the facts that are left
first_left : (last : Option Key) {f : Fact} {left rest : List Fact} {key : Key} {begun : ℕ}
    → left ≡ f ∷ rest → key ≡ (address f).key → begun ≡ begun_size last key
    → size_after last left ≡ begun + fact_size f + size_after (Some key) rest
unfolding size_after
first_left last {f = f} {rest = rest} {key = key} e k b =
    ap (size_after last) e
    ∙ ap (λ x. begun_size last x + fact_size f + size_after (Some x) rest) (sym k)
    ∙ ap (λ x. x + fact_size f + size_after (Some key) rest) (sym b)

-- is counted
capped : (bytes begun fact left : ℕ) {more own next : ℕ} → more ≡ min (bytes + begun) (2 ^ 64 - 1)
    → own ≡ min fact (2 ^ 64 - 1) → next ≡ min (more + own) (2 ^ 64 - 1)
    → min (next + left) (2 ^ 64 - 1) ≡ min (bytes + (begun + fact + left)) (2 ^ 64 - 1)
capped bytes begun fact left m o n = omega (arith, m, o, n)

none_left : (last : Option Key) (all : ℕ) {left : List Fact} {bytes : ℕ} → left ≡ []
    → bytes < 2 ^ 64 → min (bytes + size_after last left) (2 ^ 64 - 1) ≡ min all (2 ^ 64 - 1)
    → bytes ≡ min all (2 ^ 64 - 1)
unfolding size_after
none_left last all e within inv = omega (arith, ap (size_after last) e, within, inv)

pub loop-fact-preserved : goal.loop-fact-preserved
loop-fact-preserved g c =
    let s = first_left c.loop-fact.last c.in-Some.ensures.steps.0
    (ap (λ (a : Address). a.key) c.address-key.ensures) c.begun_bytes.ensures in
    record {
      counted = capped c.loop-fact.bytes c.begun_bytes.result _ _ c.saturating_add.ensures
          c.fact_bytes.ensures c.saturating_add-bytes.ensures
          ∙ ap (λ x. min (c.loop-fact.bytes + x) (2 ^ 64 - 1)) (sym s)
          ∙ c.loop-fact.invariant.counted;
      within = c.saturating_add-bytes.type_inv;
    }

pub returns : goal.returns
returns g c = record {
  counted = none_left c.loop-fact.last (held_size c.args.store.now) c.in-None.ensures.steps.0.0
      c.loop-fact.invariant.within c.loop-fact.invariant.counted;
}
