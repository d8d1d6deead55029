-- What a scan has passed and given after a turn that begins a block or gives a gap (specs/Scan).
use Rattle.flute_store.proofs.Maps.{Entry}
use Rattle.std.proofs.Common.{rules}
use Rattle.flute_store.proofs.ScanFacts.{ordered-all, coming-all, not-whole-all}
use Rattle.std.proofs.Common.{◌≡◌, ℕ, ◌+◌, ◌<◌, List, [], ◌∷◌, ◌++◌, length, Option, Some, None}
use Rattle.std.proofs.Common.{refl, sym, ◌∙◌, subst, inl, inr, arith, append_assoc}
use Rattle.std.proofs.lemmas.Grind.{flat_map-append}
use Rattle.flute_store.proofs.{HowMany.{how-append}}
use Rattle.flute_store.proofs.{Turns.{turn-turns}}
use Rattle.flute_store.proofs.Places.{told-at, until-within, block-next, Kind, kind}
use Rattle.flute_store.proofs.Shown.{shown-known}
use Rattle.flute_store.proofs.ScanTurns.{shows-next, length-left, begin-symbols}
use Rattle.flute_store.proofs.Common
use Common.{flat_map, IfSome, IsKnown, IsOrdered, EachValue, symbol_id_cmp, symbol_id, Fact, Gap}
use Common.{Turn, PartitionScan, Counted, listed, IsCount, Adds, walk_of, symbols_left}
use Common.{gaps_left, IsPlace, turn_of, held_after, TurnsTo, after_missing, shown}
use Common.{IsNotWhole, Scanned, coming_fact, Follows, GaveGap, Next, announced, held_next}
use Common.{ScanState, IsScan, ComesAs, one_run, FitsSoFar, Scans}
use Rattle.flute_store.specs.declared.partition_scan.Upcoming.TheVariants as Upcoming

-- ---- a turn

-- a turn of a scan that knows what comes next, and the walk x that it led to
pub record Step (o : ScanState) (s : Scanned) (next : Next) (t : Option Turn) (x : PartitionScan)
    : Type 0 where
  pub scan : IsScan o
  pub scans : Scans o (announced s next)
  pub turn_is : (t, x) ≡ turn_of o.walk (held_next next)
  pub place : IsPlace x

module _ {o : ScanState} {s : Scanned} {next : Next} {t : Option Turn} {x : PartitionScan}
    (p : Step o s next t x) where
  pub step-kind : Kind o.walk (held_next next) t x
  step-kind = kind _ _ t x p.turn_is

  pub turns-at : (more : List Entry) → IsOrdered symbol_id_cmp (shown s.key s.facts ++ more)
      → EachValue IsKnown more → ComesAs s.key (coming_fact s.key next) more
      → TurnsTo (walk_of o.walk more) t (walk_of x (held_after t more))
  turns-at more r k h = subst (λ (y : Option Turn × PartitionScan). TurnsTo (walk_of o.walk more)
      y.0 (walk_of y.1 (held_after y.0 more))) (sym p.turn_is) (turn-turns _ _ _
      (shows-next _ _ _ h) (p.scans.walks _ r k h).walk
      (subst (λ (y : Option Turn × PartitionScan). IsPlace y.1) p.turn_is p.place))

pub symbols-same : (x y : PartitionScan) → x ≡ y
    → symbols_left (walk_of x []) ≡ symbols_left (walk_of y [])
symbols-same = search rules

-- the symbols that are left and the run are the same
pub record LeavesSame (w x : PartitionScan) : Type 0 where
  pub symbols : symbols_left (walk_of x []) ≡ symbols_left (walk_of w [])
  pub run : x.run ≡ w.run

pub moved-done : (s : Scanned) (coming : Option (Option Fact)) (n : ℕ) {w x : PartitionScan} →
    LeavesSame w x → (bytes : Option (List ℕ)) → IfSome bytes (λ b. FitsSoFar s w b) → IfSome bytes
    (λ b. FitsSoFar (record s { coming = coming; ahead = n }) x b)
moved-done = search rules

-- a turn began a block
pub scan-begun : {o : ScanState} {s : Scanned} {next : Next} {x : PartitionScan}
    → Step o s next None x → Scans (record o { walk = x }) (announced s next)
scan-begun {o} {s} {next} {x} p =
    let q = p.scans in
    let k = step-kind p in
    let l = told-at o.walk _ Upcoming.BlockEnd k.0 in
    let a : symbols_left (walk_of x []) ≡ symbols_left (walk_of o.walk []) =
    symbols-same x _ k.2 ∙ begin-symbols o.walk l.0 (block-next o.walk _ p.scan.place k.0) in
    let r : x.run ≡ o.walk.run = rw k.2 in record {
      key_is = q.key_is;
      info_is = q.info_is;
      begins = q.begins;
      walks = λ more d n h. let w = (turns-at p more d n h).0 in
          record { walk = w.walk; gaps_are = rw ((q.walks more d n h).gaps_are, w.left_is) refl };
      done = moved-done (announced s next) _ _ (record { symbols = a; run = r }) s.bytes q.done;
      counts = q.counts;
      ahead_is = rw (q.ahead_is, a, r) refl;
    }

-- ---- a gap was given

-- the counts with this gap, and the scan after it
counted-gap : (c d : Counted) (given : List Gap) (g : Gap) → IsCount c (flat_map listed given)
    → Adds g c d → IsCount d (flat_map listed (given ++ g ∷ []))
counted-gap c d given g i a = search (rules, flat_map-append, how-append)

abbrev pub behind-gap : Scanned → Next → Gap → PartitionScan → Scanned
behind-gap s next g x = record s {
  given = s.given ++ g ∷ [];
  bytes = None;
  coming = Some
      (coming_fact s.key next);
  ahead = length (symbols_left (walk_of x [])) + one_run x.run;
}

first-gap : {o : ScanState} {s : Scanned} {next : Next} {g : Gap} {x : PartitionScan} → Step o s
    next (Some (Turn.Gap g)) x → (bytes : Option (List ℕ)) → IfSome bytes
    (λ b. FitsSoFar (announced s next) o.walk b) → IfSome bytes
    (λ b. (F : List Fact) → Follows s next F → IsNotWhole F s.key (symbol_id g.sbn g.first))
first-gap p None d = tt
first-gap {o} {s} {next} {g} {x} p (Some b) d = λ F f. let turned = turns-at p (shown s.key f.rest)
    (ordered-all p.scans f) (shown-known s.key f.rest) (coming-all p.scans f) in not-whole-all
    p.scans f g (gaps_left (walk_of x (shown s.key f.rest))) d.no_gap turned.first

pub gap-given : {o : ScanState} {s : Scanned} {next : Next} {g : Gap} {x : PartitionScan} → Step o s
    next (Some (Turn.Gap g)) x → (c : Counted) → Adds g o.wanted c → GaveGap s next g
    (behind-gap s next g x) × Scans (record o { walk = x; wanted = c }) (behind-gap s next g x)
gap-given {o} {s} {next} {g} {x} p c a = (
  record { now = refl; fewer = fewer; first = first-gap p s.bytes q.done },
  record {
    key_is = q.key_is;
    info_is = q.info_is;
    begins = q.begins;
    walks = λ more d n h. let w = turns-at p more d n h in record {
      walk = w.walk;
      gaps_are = rw ((q.walks more d n h).gaps_are, w.first, append_assoc) refl;
    };
    done = tt;
    counts = counted-gap o.wanted c s.given g q.counts a;
    ahead_is = refl;
  },
)
  where
    q : Scans o (announced s next)
    q = p.scans

    fewer : length (symbols_left (walk_of x [])) + one_run x.run < s.ahead
    fewer = by_kind (step-kind p)
      where
        by_kind : Kind o.walk (held_next next) (Some (Turn.Gap g)) x
            → length (symbols_left (walk_of x [])) + one_run x.run < s.ahead
        by_kind (inl k) = rw (q.ahead_is, k.1, k.0) (omega arith)
        by_kind (inr k) =
            let u = until-within o.walk (held_next next) p.scan.place k.1 in
            let a = length-left (walk_of o.walk []) in
            let b = length-left (walk_of (after_missing o.walk (held_next next)) []) in
            rw (q.ahead_is, k.2, k.0) (omega (arith, a, b, u))
