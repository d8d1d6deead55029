-- Lemmas on AreRanked (specs/Ranks): ranking streams one after another.
use Rattle.std.proofs.Common.{rules}
use Rattle.flute_streams.proofs.Common.{◌≡◌, ◌≢◌, ℕ, zero, suc, ◌+◌, ◌-◌}
use Rattle.flute_streams.proofs.Common.{◌<◌, ◌≤◌, ◌/◌, Bool, true}
use Rattle.flute_streams.proofs.Common.{List, ◌++◌, length, take, Option, Some, Ok}
use Rattle.flute_streams.proofs.Common.{inl, inr, ◌⊎◌, sym, ap, ◌∙◌}
use Rattle.flute_streams.proofs.Common.{arith, cases_Bool, eqb, eqb-false, eqb-true}
use Rattle.flute_streams.proofs.Common.{slice_get, slice_get_within, Address, Fact}
use Rattle.flute_streams.proofs.Common.{option_list, address_of, Behaviour, Advances, heads}
use Rattle.flute_streams.proofs.merge_lemmas.GoingOn.{NoneAt, WentSoFar, all_went, item_at}
use Rattle.flute_streams.proofs.merge_lemmas.GoingOn.{more_stay}
use Rattle.flute_streams.proofs.merge_lemmas.LeadFacts.{set_elsewhere}
use Rattle.flute_streams.proofs.merge_lemmas.LowestFacts.{heads-more}
use Rattle.flute_streams.proofs.merge_lemmas.RankFacts.{comes-behind, elsewhere}
use Rattle.std.proofs.Common.{slice_index}
use Rattle.flute_parts.specs.declared.key.Key.{Key}
use Rattle.flute_streams.specs.declared.merge.ranks.Ranks.{Ranks}
use Rattle.flute_streams.specs.Advances.{GoOnAt}
use Rattle.flute_streams.specs.Lowest.{ComesTo, StandsOn, first_at, held_at, held_in}
use Rattle.flute_streams.specs.Ranks.{AreAbove, AreLow, AreRanked, StandsFrom, IsRanking}
use Rattle.flute_streams.specs.Ranks.{place_at_rank}

-- of ranks, only that with this number may be another
abbrev pub OthersStay : ℕ → List ℕ → List ℕ → Type 0
OthersStay k ranks new = (j : ℕ) → j ≢ k → slice_index new j ≡ slice_index ranks j

pub ranked_of : {S : Type 0} (b : Behaviour S) (streams : List S) (r : Ranks) (key : Key)
    → r.key ≡ Some key → IsRanking b streams r → AreRanked b streams key r.ranks r.lows
ranked_of = search rules

module _ {S : Type 0} (b : Behaviour S) (key : Key) where
  -- the streams before k are ranked
  pub record AreRankedTo (k : ℕ) (streams : List S) (ranks : List ℕ) : Type 0 where
    pub from : (j : ℕ) (s : S) → j < k → slice_get streams j ≡ Some s
        → StandsFrom key (slice_index ranks j) (address_of (b.held s))

  -- so is the next, and the others are as they were
  pub ranked_more : (k : ℕ) {streams : List S} {ranks : List ℕ} (new : List ℕ) (o : Option Address)
      → ((s : S) → slice_get streams k ≡ Some s → o ≡ address_of (b.held s)) → StandsFrom key
      (slice_index new k) o → OthersStay k ranks new → AreRankedTo k streams ranks → AreRankedTo
      (k + 1) streams new
  ranked_more k {streams} new o held from stay h = record {
    from = λ j s l i. elim (cases_Bool (eqb j k)) [
      | inl e ↦ let same = eqb-true j k e in
          let at = held s (rw same at i) in
          rw (same, ← at) from
      | inr e ↦ let apart = eqb-false j k e in rw (stay j apart)
          (h.from j s (omega (arith, l, apart)) i)
    ];
  }

  pub ranked_all : (k : ℕ) (streams : List S) {ranks lows : List ℕ} → length streams ≤ k
      → length streams ≤ 128 → AreLow lows ranks → AreRankedTo k streams ranks
      → AreRanked b streams key ranks lows
  ranked_all k streams all few low h = search (rules, slice_get_within)

  -- the streams from k on are ranked, and if all are known, those before it too
  pub record AreRankedFrom (k : ℕ) (known : Bool) (streams : List S)
      (ranks : List ℕ) : Type 0 where
    pub from : (j : ℕ) (s : S) → (k ≤ j) ⊎ (known ≡ true)
        → slice_get streams j ≡ Some s
        → StandsFrom key (slice_index ranks j) (address_of (b.held s))

  pub rest_from : (k n : ℕ) {known : Bool} {streams : List S} {ranks : List ℕ} → k ≤ n
      → AreRankedFrom k known streams ranks → AreRankedFrom n known streams ranks
  rest_from = search rules

  -- those that have higher ranks stand elsewhere
  pub passed_elsewhere : {a : Address} (rank k n : ℕ) {known : Bool} {streams : List S}
      {ranks : List ℕ} → a ≡ place_at_rank key rank → AreAbove rank k n ranks
      → AreRankedFrom k known streams ranks → NoneAt b (Some a) k n streams
  passed_elsewhere {a} rank k n {ranks} at above h j s l r i = elsewhere a key rank
      (slice_index ranks j) (b.held s) at (above j l r) (h.from j s (inl l) i).from

  -- where the streams from k on have higher ranks, all at the address went on
  pub went_all : (a : Address) {rank k n : ℕ} {known : Bool} {old now : List S} {ranks : List ℕ} → a
      ≡ place_at_rank key rank → AreAbove rank k n ranks → AreRankedFrom k known now ranks → k ≤ n →
      length now ≡ n → WentSoFar b (Some a) k old now → GoOnAt b (Some a) old now
  went_all a {rank} {k} {n} {old} {now} at above h few all went =
      let apart = passed_elsewhere rank k n at above h in
      let more = more_stay b (Some a) (n - k) (omega (arith, few)) (omega (arith, all)) apart went
      in all_went b (Some a) n old now more (omega (arith, all))

  -- the stream with this number was advanced, and ranked if `set`
  pub record Reranked (k : ℕ) (set : Bool) (old new : List S)
      (ranks others : List ℕ) : Type 0 where
    pub advanced : Advances b k old new (Ok tt)
    pub ranked : set ≡ true → (s : S) → slice_get new k ≡ Some s
        → StandsFrom key (slice_index others k) (address_of (b.held s))
    pub stay : OthersStay k ranks others

  pub rest_moved : (k : ℕ) {known set : Bool} (now : Bool) {old new : List S}
      {ranks others : List ℕ} → Reranked k set old new ranks others
      → (now ≡ true → (known ≡ true) × (set ≡ true))
      → AreRankedFrom k known old ranks → AreRankedFrom (k + 1) now new others
  rest_moved k now {old} {new} {others} m both h = record {
    from = λ j s w i. elim (cases_Bool (eqb j k)) [
      | inl e ↦ let same = eqb-true j k e in
          let all : now ≡ true = elim w [
            | inl l ↦ absurd (omega (arith, l, same))
            | inr n ↦ n
          ] in rw same (m.ranked (both all).1 s (rw same at i))
      | inr e ↦ let apart = eqb-false j k e in
          let was = sym (set_elsewhere b old k j m.advanced.after apart) ∙ ap
          (λ l. slice_get l j) (sym m.advanced.now) ∙ i in rw (m.stay j apart) (h.from j s
          (elim w [ inl l ↦ inl (omega (arith, l)) | inr n ↦ inr (both n).0 ]) was)
    ];
  }

-- a stream that has the lowest rank, which is that of a part, stands there
pub stands-ranked : {S : Type 0} (b : Behaviour S) {streams : List S} (key : Key)
    {ranks lows : List ℕ} (k : ℕ) {rank : ℕ} → k < length streams → AreRanked b streams key ranks
    lows → slice_index ranks k ≤ rank → rank ≤ slice_index lows (k / 8) → rank ≤ 4294967296 →
    StandsOn b (place_at_rank key rank) streams (first_at k)
stands-ranked b {streams} key {ranks} k {rank} within ranked up least few =
    let x = item_at streams k within in
    let low = ranked.low k (omega (arith, within, ranked.few)) in
    let same : slice_index ranks k ≡ rank = omega (arith, up, least, low) in
    ap (λ s. address_of (held_in b s)) x.1 ∙ (ranked.from k x.0 x.1).exact
    (omega (arith, same, few)) ∙ ap (λ r. Some (place_at_rank key r)) same

-- the value at an address of what the first streams hold, and one stream more

module _ {S : Type 0} (b : Behaviour S) (streams : List S) (k : ℕ) (a : Address) where
  pub comes-more : (v : Option Fact) → k < length streams
      → ComesTo a (heads b (take k streams) ++ option_list (held_at b streams k)) v
      → ComesTo a (heads b (take (k + 1) streams)) v
  comes-more v within h = search (rules, heads-more)

module _ {S : Type 0} (b : Behaviour S) (streams : List S) (a : Address) where
  comes_passed : (k n : ℕ) {v : Option Fact} {rank : ℕ} {key : Key} {ranks lows : List ℕ} → k + n ≤
      length streams → a ≡ place_at_rank key rank → AreAbove rank k (k + n) ranks → AreRanked b
      streams key ranks lows → ComesTo a (heads b (take k streams)) v → ComesTo a
      (heads b (take (k + n) streams)) v
  comes_passed k zero {v} within at above ranked h =
      let same : k ≡ k + 0 = omega arith in
      rw (← same) h
  comes_passed k (suc n) {v} {rank} {key} {ranks} within at above ranked h =
      let j = k + n in
      let x = item_at streams j (omega (arith, within)) in
      let before = comes_passed k n (omega (arith, within)) at
      (λ i p q. above i p (omega (arith, q))) ranked h in
      let behind = comes-behind a (heads b (take j streams)) key rank (slice_index ranks j)
      (b.held x.0) at (above j (omega arith) (omega arith)) (ranked.from j x.0 x.1).from before in
      let same : j + 1 ≡ k + suc n = omega arith in
      rw (← same) (comes-more b streams j a v (omega (arith, within)) (rw x.1 behind))

  -- none of those up to m stands there
  pub comes-up-to : (k m : ℕ) {v : Option Fact} {rank : ℕ} {key : Key} {ranks lows : List ℕ} → k ≤ m
      → m ≤ length streams → a ≡ place_at_rank key rank → AreAbove rank k m ranks → AreRanked b
      streams key ranks lows → ComesTo a (heads b (take k streams)) v → ComesTo a
      (heads b (take m streams)) v
  comes-up-to k m {v} p within at above ranked h =
      let same : k + (m - k) ≡ m = omega arith in
      rw (← same) (comes_passed k _ (omega arith) at (λ i l q. above i l (omega arith)) ranked h)
