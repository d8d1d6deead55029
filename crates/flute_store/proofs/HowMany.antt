-- How many symbols are wanted for each reason (specs/Status).
use Rattle.flute_store.proofs.Maps.{Entry}
use Rattle.std.proofs.Common.{rules}
use Rattle.std.proofs.Common.{◌≡◌, ℕ, zero, suc, ◌+◌, ◌-◌, ◌<◌, ◌≤◌, ◌^◌, Bool, true, false, List}
use Rattle.std.proofs.Common.{[], ◌∷◌, ◌++◌, length, map, Some, refl, sym, ap, ◌∙◌, subst, arith}
use Rattle.std.proofs.lemmas.List.{Elements.{filter-append}, nil_from_length, length-append}
use Rattle.std.{proofs.lemmas.List.FromFn.{length-map-range_with_len}}
use Rattle.flute_store.{specs.declared.status.Wanted.{Wanted}, proofs.Runs.{runs-listed}}
use Rattle.flute_store.proofs.WholeObjects.{gapless-whole}
use Rattle.flute_store.proofs.ToldObjects.{ToldGaps, wants-told, told-information}
use Rattle.flute_store.proofs.Common
use Common.{flat_map, range_with_len, cases_Bool, Information}
use Common.{fact_at, info_address, Info, symbol_id, ids, Key, SymbolId, Fact, Reason, Missing}
use Common.{Conflicting, Misfit, Gap, Object, Whole, wants, runs, listed, same_reason, AreRuns}
use Common.{wanted, how_many, IsCount, Adds, IsPartial, status_of, TellsStatus}

abbrev Want : Type 0
Want = SymbolId × Reason

pub how-nil : (r : Reason) → how_many r [] ≡ 0
unfolding how_many
how-nil r = refl

pub how-append : (r : Reason) (ws vs : List Want)
    → how_many r (ws ++ vs) ≡ how_many r ws + how_many r vs
unfolding how_many
how-append r ws vs = simp (filter-append, length-append)

-- each is wanted for one of the three reasons
pub how-all : (ws : List Want)
    → how_many Missing ws + how_many Conflicting ws + how_many Misfit ws ≡ length ws
unfolding how_many
how-all [] = omega arith
how-all ((id, Missing) ∷ ws) = omega (arith, how-all ws)
how-all ((id, Conflicting) ∷ ws) = omega (arith, how-all ws)
how-all ((id, Misfit) ∷ ws) = omega (arith, how-all ws)

-- the symbols of a gap are wanted for its reason
abbrev times : Bool → ℕ → ℕ
times true n = n
times false n = 0

how-range : (r s : Reason) (b : Bool) → same_reason r s ≡ b → (n a k : ℕ)
    → how_many r (map (λ i. (symbol_id n i, s)) (range_with_len a k)) ≡ times b k
unfolding how_many
how-range r s true e n a zero = refl
how-range r s true e n a (suc k) = rw e (ap (λ n. suc n) (how-range r s _ e n _ k))
how-range r s false e n a zero = refl
how-range r s false e n a (suc k) = rw e (how-range r s false e n (a + 1) k)

pub how-listed : (r : Reason) (g : Gap)
    → how_many r (listed g) ≡ times (same_reason r g.reason) (g.last + 1 - g.first)
how-listed r g = how-range r _ _ refl _ _ _

pub listed-length : (g : Gap) → length (listed g) ≡ g.last + 1 - g.first
listed-length g = search (rules, length-map-range_with_len)

pub adds-reason : (g : Gap) (old new : Wanted) (r : Reason) → g.reason ≡ r
    → new.missing ≡ old.missing + times (same_reason Missing r) (g.last + 1 - g.first)
    → new.conflicting ≡ old.conflicting + times (same_reason Conflicting r) (g.last + 1 - g.first)
    → new.misfit ≡ old.misfit + times (same_reason Misfit r) (g.last + 1 - g.first) → Adds g old new
adds-reason g old new r e m n f =
    omega (arith, how-listed, rw (← e) at m, rw (← e) at n, rw (← e) at f)

-- so many are counted, and the others are left
pub record Counts (count : Wanted) (all rest : List Want) : Type 0 where
  pub missing : count.missing + how_many Missing rest ≡ how_many Missing all
  pub conflicting : count.conflicting + how_many Conflicting rest ≡ how_many Conflicting all
  pub misfit : count.misfit + how_many Misfit rest ≡ how_many Misfit all

pub counts-more : (g : Gap) (count new : Wanted) (all rest : List Want)
    → Counts count all (listed g ++ rest) → Adds g count new → Counts new all rest
counts-more = omega (arith, how-append)

pub counts-few : (count : Wanted) (all rest : List Want) → Counts count all rest → length all ≤ 2 ^
    32 → (count.missing < 2 ^ 33) × (count.conflicting < 2 ^ 33) × (count.misfit < 2 ^ 33)
counts-few count all rest c l = omega (arith, how-all all)

-- nothing was counted yet
pub counts-none : (count : Wanted) (all : List Want) → IsCount count [] → Counts count all all
counts-none = omega (arith, how-nil)

pub none-counted : (count : Wanted) → count.missing ≡ 0 → count.conflicting ≡ 0 → count.misfit ≡ 0
    → IsCount count []
none-counted count m c f = search (rules, how-nil)

pub counts-all : (count : Wanted) (all : List Want) → Counts count all [] → IsCount count all
unfolding how_many
counts-all = omega arith

-- no more symbols are wanted than there are
length-wanted : (info : Information) (held : List Entry) (xs : List SymbolId)
    → length (wanted info held xs) ≤ length xs
unfolding wanted
length-wanted info held [] = omega arith
length-wanted info held (x ∷ xs) = grind (arith, length-wanted info held xs)

pub few-wanted : (info : Information) (held : List Entry) (gs : List Gap)
    → gs ≡ runs (wanted info held (ids info)) → length (ids info) ≤ 2 ^ 32
    → length (flat_map listed gs) ≤ 2 ^ 32
few-wanted info held gs e l =
    rw (e, runs-listed) (omega (arith, length-wanted info held (ids info)))

-- ---- the status of an object

module _ (F : List Fact) (key : Key) (info : Information) (count : Wanted)
    (i : fact_at F (info_address key) ≡ Some (Info key info))
    (c : IsCount count (wants F key info)) where
  total : length (wants F key info) ≡ count.missing + count.conflicting + count.misfit
  total = omega (arith, how-all (wants F key info))

  is-whole : count.missing ≡ 0 → count.conflicting ≡ 0 → count.misfit ≡ 0 → Whole F key info
  unfolding runs
  is-whole a b d =
      let s = total in
      gapless-whole F _ _ i (ap runs (nil_from_length (wants F _ _) (omega (arith, a, b))))

  is-partial : (count.missing ≡ 0 → count.conflicting ≡ 0 → count.misfit ≡ 0 → ⊥)
      → IsPartial F key count.missing count.conflicting count.misfit
  is-partial z = record {
    info = info;
    information = i;
    some = λ w. let s = total in
        let l = ap (λ (x : List Want). length x) w in
        z (omega (arith, s)) (omega (arith, s, l)) (omega (arith, l));
    missing_are = c.missing;
    conflicting_are = c.conflicting;
    misfit_are = c.misfit;
  }

  pub tells-status : (n : ℕ) → n ≡ info.transfer_length → TellsStatus F key (status_of count n)
  tells-status n l = search (rules, cases_Bool, is-whole, is-partial)

-- the wanted symbols of all gaps were counted
pub store-status : {n : ℕ} {F : List Fact} {key : Key} {x : Object n} {info : Information}
    {held : List Entry} {gs : List Gap} → ToldGaps F key x info held gs
    → (count : Wanted) → IsCount count (flat_map listed gs) → (length : ℕ)
    → length ≡ info.transfer_length → TellsStatus F key (status_of count length)
store-status {n} {F} {key} {x} {info} {held} {gs} t count c =
    let all = ap (flat_map _) t.gaps_are ∙ runs-listed _ ∙ ap (λ s. wanted info s (ids info))
    t.held_is ∙ sym (wants-told F _ x _ t.told) in tells-status F _ _ _
    (told-information F _ x _ t.told t.info_is) (subst (IsCount _) all c)

-- ---- gap after gap

pub record FirstGap (g : Gap) (gs : List Gap) (count : Wanted) (all : List Want) : Type 0 where
  pub order : g.first ≤ g.last
  pub runs_are : AreRuns gs
  pub counted : Counts count all (listed g ++ flat_map listed gs)

pub first-gap : (g : Gap) (gs rest : List Gap) (count : Wanted) (all : List Want) → gs ≡ g ∷ rest
    → AreRuns gs → Counts count all (flat_map listed gs) → FirstGap g rest count all
unfolding AreRuns
first-gap = search rules
