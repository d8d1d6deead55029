-- What a scan has passed and given after a turn (specs/Scan).
use Rattle.flute_store.proofs.Maps.{Entry, Held, HeldBytes}
use Rattle.std.proofs.Common.{rules}
use Rattle.flute_store.proofs.ScanFacts.{Among, gaps-all, information-all, information-at}
use Rattle.flute_store.proofs.ScanFacts.{shown-all}
use Rattle.flute_store.proofs.ScanGaps.{Step, step-kind, symbols-same, moved-done, scan-begun}
use Rattle.flute_store.proofs.ScanGaps.{gap-given}
use Rattle.flute_store.proofs.ScanSymbols.{shown-next, symbol-passed, keeps-at}
use Rattle.flute_store.proofs.ScanSymbols.{keeps-end, held-same, passed-done, fitting-done}
use Rattle.flute_store.proofs.ScanSymbols.{first-wanted}
use Rattle.std.proofs.Common.{◌≡◌, ℕ, ◌+◌, ◌≤◌, List, [], ◌∷◌, ◌++◌, length, take, Option, Some}
use Rattle.std.proofs.Common.{None, refl, sym, ap, ◌∙◌, subst, arith, append-nil}
use Rattle.flute_store.proofs.{GapSteps.{gaps-end}}
use Rattle.flute_store.proofs.{HowMany.{how-all, listed-length}, BytesSteps.{found-of}}
use Rattle.flute_store.proofs.Upcoming.{upcoming-end}
use Rattle.flute_store.proofs.{WholeObjects.{gapless-whole}}
use Rattle.flute_store.proofs.Places.{told-at, Kind, kind, within-turn, within-gap, small}
use Rattle.flute_store.proofs.Shown.{shown-ordered, shown-at}
use Rattle.flute_store.proofs.ScanTurns.{cell_of, end-symbols, value-more}
use Rattle.flute_store.proofs.Common
use Common.{flat_map, Contains, IfSome, option_map, none-some, value_at, IsOrdered, Cell, One}
use Common.{symbol_address, fact_at, IsRising, symbol_id_cmp, Key, SymbolId, Fact, Turn}
use Common.{PartitionScan, Counted, listed, gaps, object, value_bytes, Whole, CanAdd, AddsTurn}
use Common.{held_bytes, walk_of, symbols_left, gaps_left, IsPlace, turn_of, shown, Scanned}
use Common.{CanFollow, Follows, IsFirstPart, value_of, Turned, PartOf, BeginsBlocks}
use Common.{Next, announced, held_next, passed_at_end, Stepped, ScanState, IsScan, CountsWithin}
use Common.{one_run, FitsSoFar, Scans, symbol_fact}
use Rattle.flute_store.specs.declared.partition_scan.Upcoming.TheVariants as Upcoming

-- ---- the end

values-shown : (F : List Fact) (key : Key) (es more : List Entry) (xs : List SymbolId) → IsRising F
    → shown key F ≡ es ++ more → ((id : SymbolId) → Contains xs id → (c : Cell (List ℕ)) ×
    (value_at symbol_id_cmp es id ≡ Some c)) → held_bytes es xs ≡ flat_map
    (λ id. value_bytes (fact_at F (symbol_address key id))) xs
unfolding held_bytes
values-shown F key es more xs r e h =
    let told = λ (id : SymbolId). sym (ap value_bytes (shown-at key _ F r) ∙ found-of key id
    (value_at symbol_id_cmp (shown _ F) _)) in sym (held-same es more _ h) ∙ rw (← e)
    (λ i. flat_map (λ id. told id i) xs)

-- the bytes are a prefix of the object
pub first-part : {s : Scanned} {w : PartitionScan} {F before rest : List Fact} {bytes : List ℕ}
    → FitsSoFar s w bytes → Among s F before rest → IsFirstPart F s.key s.info bytes
first-part {s} {w} {F} {before} {rest} d m =
    let a = shown-all m in
    let r = m.rising in
    record {
      first = d.done;
      others = symbols_left (walk_of w []);
      all = d.all;
      held = λ id c. let h = d.held id c in record {
        bytes = h.0;
        value = shown-at s.key id F r ∙ ap (symbol_fact s.key id) (ap
            (λ es. value_at symbol_id_cmp es id) a ∙ value-more (shown s.key s.facts)
            (shown s.key rest) id (One h.0) h.1);
        fitting = h.2;
      };
      values = d.values ∙ values-shown F s.key (shown s.key s.facts) (shown s.key rest) d.done r a
          (λ id c. let h = d.held id c in (One h.0, h.1));
    }

abbrev pub behind-end : Scanned → PartitionScan → Scanned
behind-end s x = record s
    { coming = Some None; ahead = length (symbols_left (walk_of x [])) + one_run x.run }

-- after the last turn the bytes are those of the whole object
whole-bytes : {s : Scanned} (w : PartitionScan) {F before rest : List Fact}
    (bytes : Option (List ℕ)) → IfSome bytes (λ b. FitsSoFar s w b) → Among s F before rest →
    symbols_left (walk_of w []) ≡ [] → gaps F s.key s.info ≡ s.given → IfSome bytes
    (λ b. Whole F s.key s.info × (object F s.key s.info ≡ take s.info.transfer_length b))
unfolding object first-part
whole-bytes w None d a l g = tt
whole-bytes {s} w {F} (Some bytes) d a l g = (
  gapless-whole F _ _ (information-at a) (g ∙ d.no_gap),
  rw (d.all ∙ ap (λ xs. d.done ++ xs) l ∙ append-nil _, ← (first-part d a).values),
)

-- after the last turn all gaps were given, and the counts are those of the gaps
pub end-given : {o : ScanState} {s : Scanned} {x : PartitionScan} → Step o s None (Some Turn.End) x
    → Turned s None Turn.End (behind-end s x) × Scans (record o { walk = x }) (behind-end s x)
end-given {o} {s} {x} p =
    let q = p.scans in
    let k = step-kind p in
    let l = told-at o.walk None Upcoming.End k.0 in
    let none : (more : List Entry) → gaps_left (walk_of o.walk more) ≡ [] = λ more. gaps-end _
    (sym (upcoming-end _ l.0 l.1)) k.1 in (
      (
        refl,
        λ F f. let g : Follows s None F = search rules
            in
            let a : gaps F s.key s.info ≡ s.given = rw (gaps-all q g, none (shown s.key f.rest), append-nil)
            refl in record {
              information = information-all q g;
              gaps_are = a;
              whole = whole-bytes o.walk s.bytes q.done
                  (record { symbols = q.begins.0; begins = q.begins.1; all = f.all; rising = f.rising })
                  (end-symbols o.walk l.0 l.1) a;
            },
      ),
      record {
        key_is = q.key_is;
        info_is = q.info_is;
        begins = q.begins;
        walks = λ more d n h. let w = q.walks more d n h in record {
          walk = rw k.2 w.walk;
          gaps_are = rw k.2 w.gaps_are;
        };
        done = moved-done (announced s None) _ _
            (record { symbols = symbols-same x _ k.2; run = rw k.2 }) s.bytes q.done;
        counts = q.counts;
        ahead_is = refl;
      },
    )

-- ---- a step of a scan

abbrev state_of : ScanState → PartitionScan → Counted → ScanState
state_of o x c = record o { walk = x; wanted = c }

pub can-add : (o : ScanState) (h : Option Held) (t : Option Turn)
    (x : PartitionScan) → IsScan o → (t, x) ≡ turn_of o.walk h → CanAdd t o.wanted
can-add o h (Some (Turn.Gap g)) x sc e = (
  (within-gap h o.wanted sc.place sc.within g x (kind _ h _ x e)).0,
  small h o.wanted sc.place
      sc.within,
)
can-add o h t x sc e = tt

-- the partition stays, and no block is begun twice
moved-on : (w : PartitionScan) (h : Option Held) (t : Option Turn)
    (x : PartitionScan) → Kind w h t x → (x.partition ≡ w.partition) × (w.begun ≤ x.begun)
moved-on = search rules

pub begins-blocks : {o old : ScanState} (h : Option Held) {t : Option Turn}
    {x : PartitionScan} (c : Counted)
    → o ≡ old → (t, x) ≡ turn_of o.walk h → IsPlace x → BeginsBlocks old (state_of o x c)
begins-blocks {o} h {t} {x} c v e p =
    let m = moved-on o.walk h t x (kind _ h t x e) in
    rw (← v) (record { partition_is = m.0; onward = m.1; within = p.begun })

-- after a step a scan is still in order: its place, its counts and its partition
pub step-scan : {o : ScanState} (h : Option Held) (t : Option Turn)
    {x : PartitionScan} (c : Counted) → IsScan o → (t, x) ≡ turn_of o.walk h → IsPlace x
    → AddsTurn t o.wanted c → IsScan (state_of o x c)
step-scan {o} h (Some (Turn.Gap g)) {x} c sc e pl a =
    let k = kind _ h _ x e in
    let within : CountsWithin x c = omega
    (arith, (within-gap h o.wanted sc.place sc.within g x k).1, how-all (listed g), listed-length g)
    in record { place = pl; within = within; partition = search (rules, moved-on) }
step-scan {o} h t {x} c sc e pl a =
    let k = kind _ h t x e in
    record {
      place = pl;
      within = rw a (within-turn h _ sc.place sc.within t x tt k);
      partition = (moved-on _ h t x k).0 ∙ sc.partition;
    }

ordered-next : (s : Scanned) (n : HeldBytes) → CanFollow s (Some n)
    → IsOrdered symbol_id_cmp (shown s.key s.facts ++ (n.0, cell_of n.1) ∷ [])
ordered-next s n f = subst (IsOrdered symbol_id_cmp) (shown-next s n) (shown-ordered _ _ f)

-- what was counted is the same where no gap was given
same-counts : (o : ScanState) (s : Scanned) (x : PartitionScan) (c : Counted) → c ≡ o.wanted
    → Scans (record o { walk = x }) s → Scans (state_of o x c) s
same-counts = search rules

passed-end : {o : ScanState} {s : Scanned} {n : HeldBytes}
    {x : PartitionScan} → Step o s (Some n) (Some Turn.End) x → (c : Counted) → c ≡ o.wanted
    → Stepped s (Some n) (state_of o x c) (Some Turn.Passed)
passed-end {o} {s} {n} {x} p c a =
    let r = symbol-passed o s n x _ p.scans (keeps-end p)
    (passed-done s n (Some n) s.bytes s.bytes (step-kind p).2 p.scans.done) in
    (_, r.0, same-counts o _ _ _ a r.1)

-- a step of a scan, whatever turn it makes
pub stepped : {o : ScanState} {s : Scanned} (next : Next) (t : Option Turn) {x : PartitionScan}
    → Step o s next t x → (c : Counted) → CanFollow s next → AddsTurn t o.wanted c
    → Stepped s next (state_of o x c) (passed_at_end t (held_next next))
stepped {o} next None p c f a = same-counts o _ _ _ a (scan-begun p)
stepped next (Some (Turn.Gap g)) p c f a = let r = gap-given p c a in (_, r.0, r.1)
stepped {o} None (Some Turn.Fitting) p c f a =
    absurd (none-some _ (told-at o.walk None Upcoming.Fitting (step-kind p).0).1.1)
stepped {o} {s} (Some n) (Some Turn.Fitting) {x} p c f a =
    let bytes = option_map (λ b. b ++ value_of n) s.bytes in
    let r = symbol-passed o s n x bytes p.scans (keeps-at p tt (λ more. refl))
    (fitting-done p s.bytes bytes (ordered-next s n f) p.scans.done) in
    (_, r.0, same-counts o _ _ _ a r.1)
stepped {o} None (Some Turn.Wanted) p c f a =
    let k = step-kind p in absurd (none-some _ (told-at o.walk None (Upcoming.Wanted k.0) k.1).2.1)
stepped {o} {s} (Some n) (Some Turn.Wanted) {x} p c f a =
    let r = symbol-passed o s n x None p.scans (keeps-at p tt (λ more. refl)) tt in
    (_, (r.0, first-wanted p s.bytes p.scans.done), same-counts o _ _ _ a r.1)
stepped {o} None (Some Turn.Passed) p c f a =
    absurd (let t = told-at o.walk None Upcoming.Passed (step-kind p).0 in none-some t.0 t.1)
stepped {o} {s} (Some n) (Some Turn.Passed) {x} p c f a =
    let r = symbol-passed o s n x s.bytes p.scans (keeps-at p tt (λ more. refl))
    (passed-done s n (Some n) s.bytes s.bytes (step-kind p).1 p.scans.done) in
    (_, r.0, same-counts o _ _ _ a r.1)
stepped {o} None (Some Turn.End) p c f a =
    let r = end-given p in (_, r.0, same-counts o _ _ _ a r.1)
stepped (Some (id, None)) (Some Turn.End) p c f a = passed-end p c a
stepped (Some (id, Some v)) (Some Turn.End) p c f a = passed-end p c a

pub part-of : (o : ScanState) (s : Scanned) → Scans o s → PartOf s
part-of o s q = by_bytes _ q.done
  where
    by_bytes : (bytes : Option (List ℕ)) → IfSome bytes (λ b. FitsSoFar s o.walk b)
        → IfSome bytes (λ b. (F before rest : List Fact) → F ≡ before ++ (s.facts ++ rest)
        → IsRising F → IsFirstPart F s.key s.info b)
    by_bytes None d = tt
    by_bytes (Some b) d = λ F before rest e r. first-part d
        (record { symbols = q.begins.0; begins = q.begins.1; all = e; rising = r })
