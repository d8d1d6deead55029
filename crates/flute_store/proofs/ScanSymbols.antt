-- What a scan has passed and given after a turn that passes a symbol (specs/Scan).
use Rattle.flute_store.proofs.Maps.{Entry, HeldBytes}
use Rattle.std.proofs.Common.{rules}
use Rattle.flute_store.proofs.ScanFacts.{ordered-all, coming-all, walks-all, not-whole-all}
use Rattle.flute_store.proofs.ScanGaps.{Step, step-kind, turns-at, symbols-same}
use Rattle.std.proofs.Common.{◌≡◌, ℕ, ◌+◌, ◌<◌, true, cond, List, [], ◌∷◌, ◌++◌, length, Option}
use Rattle.std.proofs.Common.{Some, None, refl, sym, ap, ◌∙◌, subst, inl, inr, arith, append_assoc}
use Rattle.std.proofs.lemmas.Grind.{flat_map-append}
use Rattle.flute_store.proofs.{Runs.{goes_on-tells}, GapSteps.{gaps-end}}
use Rattle.flute_store.proofs.{KeyLists.{one_is, first_is}}
use Rattle.flute_store.proofs.Upcoming.{told as told-upcoming, taken, taken-left, upcoming-end}
use Rattle.flute_store.proofs.{Turns.{Steps, step-keeps}}
use Rattle.flute_store.proofs.Places.{told-at}
use Rattle.flute_store.proofs.Shown.{shown-append, shown-known}
use Rattle.flute_store.proofs.ScanTurns.{cell_of, shown-told, known-cell, take-symbols, value-more}
use Rattle.flute_store.proofs.ScanTurns.{value-last}
use Rattle.flute_store.proofs.Common
use Common.{Contains, IfSome, option_map, keys_of, cases_Bool}
use Common.{Contains-append_cases, Contains-append_right, sorted_tail, IsKnown, value_at, IsOrdered}
use Common.{EachValue, Cell, One, symbol_id_cmp, symbol_id, ids, fits, SymbolId, Fact, Reason, Gap}
use Common.{Turn, PartitionScan, runs, one, goes_on, before, gaps, wanted, found_bytes, held_bytes}
use Common.{walk_of, symbols_left, left, pending, gaps_left, IsWalk, held_after, shown}
use Common.{IsNotWhole, Scanned, next_fact, coming_fact, Follows, PassedNext, value_of, Next}
use Common.{announced, held_next, ScanState, ComesAs, one_run, FitsSoFar, Scans}
use Rattle.flute_store.specs.declared.partition_scan.Upcoming.TheVariants as Upcoming

abbrev pub behind-symbol : Scanned → HeldBytes → Option (List ℕ) → PartitionScan → Scanned
behind-symbol s n bytes x = record s {
  facts = s.facts ++ next_fact s.key n ∷ [];
  bytes = bytes;
  coming = None;
  ahead = length (symbols_left (walk_of x [])) + one_run x.run;
}

pub shown-next : (s : Scanned) (n : HeldBytes) → shown s.key
    (s.facts ++ next_fact s.key n ∷ []) ≡ shown s.key s.facts ++ (n.0, cell_of n.1) ∷ []
unfolding shown
shown-next = search (rules, shown-append, shown-told)

-- whatever follows, what is left is the same after the symbol
abbrev pub KeepsAt : ScanState → Scanned → HeldBytes → PartitionScan → Type 0
KeepsAt o s n x = (more : List Entry) → IsOrdered symbol_id_cmp
    (shown s.key s.facts ++ ((n.0, cell_of n.1) ∷ more)) → EachValue IsKnown more → IsWalk
    (walk_of x more) ×
    (gaps_left (walk_of x more) ≡ gaps_left (walk_of o.walk ((n.0, cell_of n.1) ∷ more)))

pub next-comes : (s : Scanned) (n : HeldBytes) (more : List Entry)
    → ComesAs s.key (coming_fact s.key (Some n)) ((n.0, cell_of n.1) ∷ more)
next-comes s n more = (more, ap (λ es. es ++ more) (sym (shown-told _ n)))

pub symbol-passed : (o : ScanState) (s : Scanned) (n : HeldBytes)
    (x : PartitionScan) (bytes : Option (List ℕ)) → Scans o (announced s (Some n)) → KeepsAt o s n x
    → IfSome bytes (λ b. FitsSoFar (behind-symbol s n bytes x) x b) → PassedNext s n bytes
    (behind-symbol s n bytes x) × Scans (record o { walk = x }) (behind-symbol s n bytes x)
symbol-passed o s n x bytes q k d = (
  record { now = refl },
  record {
    key_is = q.key_is;
    info_is = q.info_is;
    begins =
        (q.begins.0 ++ next_fact _ n ∷ [], ap (λ fs. fs ++ next_fact s.key n ∷ []) q.begins.1);
    walks = λ more r m h. let p = ap (λ es. es ++ more) (shown-next s n) ∙ append_assoc _ _ more
        in
        let r' = subst (IsOrdered _) p r in
        let y = k _ r' m in
        record {
          walk = y.0;
          gaps_are = ap (λ es. runs (wanted s.info es (ids s.info))) p ∙
              (q.walks _ r' (known-cell _, m) (next-comes s n _)).gaps_are ∙ ap
              (λ gs. s.given ++ gs) (sym y.1);
        };
    done = d;
    counts = q.counts;
    ahead_is = refl;
  },
)

-- where a turn keeps what is left
pub keeps-at : {o : ScanState} {s : Scanned} {n : HeldBytes}
    {t : Option Turn} {x : PartitionScan} → Step o s (Some n) t x → Steps t
    → ((more : List Entry) → held_after t ((n.0, cell_of n.1) ∷ more) ≡ more) → KeepsAt o s n x
keeps-at {o} {s} {n} {t} {x} p st h more r m =
    let es : List Entry = (n.0, cell_of n.1) ∷ more in
    let k = step-keeps (walk_of o.walk es) t (walk_of x (held_after t es)) st
    (turns-at p es r (known-cell n.1, m) (next-comes s n more)) in
    (subst (λ es. IsWalk (walk_of x es)) (h more) k.walk, search (rules, runs))

-- held symbols after the last block
pub keeps-end : {o : ScanState} {s : Scanned} {n : HeldBytes}
    {x : PartitionScan} → Step o s (Some n) (Some Turn.End) x → KeepsAt o s n x
keeps-end {o} {s} {n} {x} p more r m =
    let es : List Entry = (n.0, cell_of n.1) ∷ more in
    let k = step-kind p in
    let l = told-at _ (held_next (Some n)) _ k.0 in
    let w = (p.scans.walks es r (known-cell n.1, m) (next-comes s n _)).walk in
    let g : (held : List Entry) → gaps_left (walk_of o.walk held) ≡ [] = λ held. gaps-end
    (walk_of _ held) (sym (upcoming-end _ l.0 l.1)) k.1 in
    let v : IsWalk (walk_of o.walk more) = assumption (
      w,
      m,
      sorted_tail symbol_id_cmp n.0
          (keys_of more) w.ordered,
      λ (z : 0 < o.walk.esi). (w.behind z).1,
    ) in
    (subst (λ (y : PartitionScan). IsWalk (walk_of y more)) (sym k.2) v, rw (k.2, g more, ← g es))

-- the bytes of held symbols stay the same with more entries after them
pub held-same : (es more : List Entry) (xs : List SymbolId) → ((id : SymbolId) → Contains xs id →
    (c : Cell (List ℕ)) × (value_at symbol_id_cmp es id ≡ Some c)) → held_bytes (es ++ more) xs ≡
    held_bytes es xs
unfolding held_bytes
held-same es more [] h = refl
held-same es more (x ∷ xs) h =
    let f = h x (first_is x _) in
    (λ i. found_bytes ((value-more es more x f.0 f.1 ∙ sym f.1) i) ++ held-same _ more xs
    (λ id c. h _ (Contains-append_right (x ∷ []) _ _ c)) i)

bytes-both : (es : List Entry) (xs ys : List SymbolId)
    → held_bytes es (xs ++ ys) ≡ held_bytes es xs ++ held_bytes es ys
unfolding held_bytes
bytes-both = search (rules, flat_map-append, value_at)

one-value : (es : List Entry) (id : SymbolId) (b : List ℕ)
    → value_at symbol_id_cmp es id ≡ Some (One b) → held_bytes es (id ∷ []) ≡ b
unfolding held_bytes
one-value = search rules

-- the symbol is not of the partition, and is passed
pub passed-done : (s : Scanned) (n : HeldBytes) (next : Next) (bytes said : Option (List ℕ))
    {w x : PartitionScan} → x ≡ w → IfSome bytes (λ b. FitsSoFar (announced s next) w b) → IfSome
    bytes (λ b. FitsSoFar (behind-symbol s n said x) x b)
passed-done s n next None said e d = tt
passed-done s n next (Some b) said {w} {x} e d =
    let p = shown-next s n in
    let more : List Entry = (n.0, cell_of _) ∷ [] in
    record {
      done = d.done;
      all = rw (d.all, ← symbols-same x w e);
      held = λ id c. let h = d.held _ c in (
        h.0,
        rw (p, value-more (shown _ _) more id _ h.1),
        h.2,
      );
      values = d.values ∙ sym (ap (λ es. held_bytes es d.done) p ∙ held-same _ more _
          (λ id c. (One _, (d.held _ c).1)));
      no_run = rw (e, d.no_run);
      no_gap = d.no_gap;
    }

-- the next symbol of the partition was passed: its bytes are the next of the object
length-is : (n : HeldBytes) (here : SymbolId) (k : ℕ) → held_next (Some n) ≡ Some (here, Some k) →
    (n.0 ≡ here) × (cell_of n.1 ≡ One (value_of n)) × (length (value_of n) ≡ k)
length-is = search rules

pub fitting-done : {o : ScanState} {s : Scanned} {n : HeldBytes}
    {x : PartitionScan} → Step o s (Some n) (Some Turn.Fitting) x → (bytes said : Option (List ℕ)) →
    IsOrdered symbol_id_cmp (shown s.key s.facts ++ (n.0, cell_of n.1) ∷ []) → IfSome bytes
    (λ b. FitsSoFar (announced s (Some n)) o.walk b) → IfSome
    (option_map (λ b. b ++ value_of n) bytes) (λ b. FitsSoFar (behind-symbol s n said x) x b)
fitting-done p None said r d = tt
fitting-done {o} {s} {n} {x} p (Some b) said r d =
    let k = step-kind p in
    let t = told-at o.walk _ _ k.0 in
    let here = symbol_id _ o.walk.esi in
    let h = length-is n here t.1.0 t.1.1 in
    let l : o.walk.esi < o.walk.size = omega arith in
    let f = shown-next s n in
    let more : List Entry = (n.0, cell_of n.1) ∷ [] in
    let es = shown s.key (s.facts ++ next_fact s.key n ∷ []) in
    let v : value_at symbol_id_cmp es here ≡ Some (One (value_of n)) = ap
    (λ es. value_at symbol_id_cmp es here) f ∙ ap
    (value_at symbol_id_cmp (shown s.key s.facts ++ more)) (sym h.0) ∙ value-last _ _ r ∙ ap Some
    h.1 in
    let fit : fits s.info here (length (value_of n)) ≡ true =
    (λ j. fits ((p.scans.info_is ∙ sym p.scan.partition) j) here (h.2 j)) ∙ t.1.2 in
    let old : held_bytes es d.done ≡ held_bytes (shown s.key s.facts) d.done = ap
    (λ es. held_bytes es d.done) f ∙ held-same _ more d.done
    (λ id c. let h = d.held id c in (One h.0, h.1)) in record {
      done = d.done ++ here ∷ [];
      all = d.all ∙ ap (λ xs. d.done ++ xs) (take-symbols o.walk l ∙ ap (λ xs. here ∷ xs)
          (sym (symbols-same x (record o.walk { esi = o.walk.esi + 1 }) k.2))) ∙ sym
          (append_assoc d.done (here ∷ []) _);
      held = λ id c. elim (Contains-append_cases d.done (here ∷ []) id c) [
        | inl a ↦ let g = d.held id a in
            (_, ap (λ es. value_at symbol_id_cmp es id) f ∙ value-more _ more id _ g.1, g.2)
        | inr a ↦ let z = one_is here id a in (
          _,
          subst
              (λ id. value_at symbol_id_cmp es id ≡ Some (One (value_of n))) z v,
          subst
              (λ id. fits s.info id (length (value_of n)) ≡ true) z fit,
        )
      ];
      values = (λ j. d.values j ++ value_of n) ∙ sym
          (bytes-both es d.done (here ∷ []) ∙ (λ j. old j ++ one-value es here (value_of n) v j));
      no_run = ap (λ (y : PartitionScan). y.run) k.2 ∙ k.1;
      no_gap = d.no_gap;
    }

-- the first of some wanted symbols begins their first gap
runs-head : (id : SymbolId) (r : Reason) (ws : List (SymbolId × Reason)) → (g : Gap) ×
    (gs : List Gap) × (runs ((id, r) ∷ ws) ≡ g ∷ gs) × (g.sbn ≡ id.sbn) × (g.first ≡ id.esi)
unfolding runs
runs-head id r ws = by_gaps _
  where
    by_gaps : (gaps : List Gap) → (g : Gap) × (gs : List Gap) × (before (one (id, r)) gaps ≡ g ∷ gs)
        × (g.sbn ≡ id.sbn) × (g.first ≡ id.esi)
    by_gaps [] = (one (id, r), [], refl, refl, refl)
    by_gaps (h ∷ gaps) = elim (cases_Bool (goes_on (one _) h)) [
      | inl t ↦ (
        record h { first = id.esi },
        gaps,
        ap
            (λ b. cond b (record h { first = id.esi } ∷ gaps) (one (id, r) ∷ h ∷ gaps)) t,
        sym
            (goes_on-tells (one (id, r)) h t).0,
        refl,
      )
      | inr t ↦ (
        one (id, r),
        h ∷ gaps,
        ap
            (λ b. cond b (record h { first = id.esi } ∷ gaps) (one (id, r) ∷ h ∷ gaps)) t,
        refl,
        refl,
      )
    ]

here-is : (n : HeldBytes) (here : SymbolId) (k : Option ℕ)
    → held_next (Some n) ≡ Some (here, k) → n.0 ≡ here
here-is = grind arith

pub first-wanted : {o : ScanState} {s : Scanned} {n : HeldBytes}
    {x : PartitionScan} → Step o s (Some n) (Some Turn.Wanted) x → (bytes : Option (List ℕ))
    → IfSome bytes (λ b. FitsSoFar (announced s (Some n)) o.walk b)
    → IfSome bytes (λ b. (F : List Fact) → Follows s (Some n) F → IsNotWhole F s.key n.0)
first-wanted p None d = tt
first-wanted {o} {s} {n} {x} p (Some b) d = λ F f.
    let more = shown s.key f.rest in
    let v = walk_of o.walk more in
    let k = step-kind p in
    let t = told-at o.walk (held_next (Some n)) (Upcoming.Wanted k.0) k.1 in
    let here = symbol_id o.walk.sbn o.walk.esi in
    let z : n.0 ≡ here = here-is n here t.2.0 t.2.1 in
    let u =
    turns-at p more (ordered-all p.scans f) (shown-known s.key f.rest) (coming-all p.scans f) in
    let h = runs-head here u.1.0 (left (taken None v)) in
    let a : gaps_left v ≡ h.0 ∷ h.1 =
    ap (λ r. runs (pending r ++ left v)) d.no_run
    ∙ ap runs (taken-left None v (Some u.1.0) (walks-all p.scans f).walk
    (told-upcoming v (Upcoming.Wanted u.1.0) u.1.1)) ∙ h.2 in
    subst (λ id. IsNotWhole F s.key id) ((λ i. symbol_id (h.3 i) (h.4 i)) ∙ sym z)
    (not-whole-all p.scans f h.0 h.1 d.no_gap a)
