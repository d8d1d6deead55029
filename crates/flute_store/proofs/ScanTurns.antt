-- What a turn of a scan passes and gives (specs/PartitionScan, specs/Scan).
use Rattle.flute_store.proofs.Maps.{Entry, HeldBytes}
use Rattle.std.proofs.Common.{rules}
use Rattle.std.proofs.Common.{length-append, ◌≡◌, ℕ, ◌+◌, ◌-◌, ◌<◌, List, [], ◌∷◌, ◌++◌}
use Rattle.std.proofs.Common.{length, Option, Some, None, refl, sym, ap, ◌∙◌, arith}
use Rattle.flute_store.proofs.Lookups.{block_from-end, blocks_from-next}
use Rattle.flute_parts.specs.Totality.{symbol_id_total}
use Rattle.flute_join.proofs.Public.{value_there}
use Rattle.std.proofs.lemmas.List.FromFn.{length-map-range_with_len}
use Rattle.flute_store.proofs.{Lookups.{blocks_from-end, blocks_from-all}, ToldObjects.{start-left}}
use Rattle.flute_store.proofs.HowMany.{how-nil}
use Rattle.flute_store.proofs.{Runs.{runs-listed}, Turns.{start-walk}, KeyLists.{none_in}}
use Rattle.flute_store.proofs.Common
use Common.{Bor, none-some, IsKnown, value_at, IsOrdered, Cell, One, Conflict}
use Common.{Information, sizes, symbol_id_cmp, symbol_id, Key, SymbolId, Fact}
use Common.{Counted, IsCount, held_bytes, PartitionScan, wants, block_from, blocks_from}
use Common.{Walk, walk_of, at_start, symbols_left, gaps_left, ShowsNext, after_block}
use Common.{shown_by, shown, Scanned, next_fact, coming_fact, at_begin, GaveAll, Next, held_next}
use Common.{run_length, CountsWithin, ScanState, ComesAs, one_run, Scans}

-- ---- what comes next, as an entry

abbrev pub cell_of : Option (Bor (List ℕ)) → Cell (List ℕ)
cell_of None = Conflict
cell_of (Some bytes) = One bytes.now

pub shown-told : (key : Key) (n : HeldBytes)
    → shown_by key (next_fact key n) ≡ (n.0, cell_of n.1) ∷ []
shown-told = search rules

pub known-cell : (v : Option (Bor (List ℕ))) → IsKnown (cell_of v)
known-cell = search rules

pub shows-next : (key : Key) (next : Next) (more : List Entry)
    → ComesAs key (coming_fact key next) more → ShowsNext more (held_next next)
shows-next key None more h = h
shows-next key (Some (id, Some b)) more h = (One _, h.0, rw (h.1, shown-told key _), refl)
shows-next key (Some (id, None)) more h = (Conflict, h.0, rw (h.1, shown-told _ (id, None)), refl)

-- ---- the symbols that are left

pub length-left : (w : Walk)
    → length (symbols_left w) ≡ (w.size - w.esi) + length (blocks_from w.partition w.begun)
length-left w = rw (length-append (block_from _ _ w.size) _, length-map-range_with_len _ w.esi _)

-- none at the end
pub end-symbols : (w : PartitionScan) → w.esi ≡ w.size → w.begun ≡ length (sizes w.partition)
    → symbols_left (walk_of w []) ≡ []
end-symbols w e f = rw (e, block_from-end _ _, f, blocks_from-end _)

-- a block that is begun changes none of them
pub begin-symbols : (w : PartitionScan) → w.esi ≡ w.size → w.begun < length (sizes w.partition)
    → symbols_left (walk_of (after_block w) []) ≡ symbols_left (walk_of w [])
begin-symbols w e l = rw (e, block_from-end _ _, blocks_from-next _ _ l)

-- the next one is passed
pub take-symbols : (w : PartitionScan) → w.esi < w.size → symbols_left (walk_of w []) ≡ symbol_id
    w.sbn w.esi ∷ symbols_left (walk_of (record w { esi = w.esi + 1 }) [])
take-symbols = search rules

-- ---- looking up in what was passed, with one more after it

pub value-more : (es more : List Entry) (id : SymbolId) (c : Cell (List ℕ))
    → value_at symbol_id_cmp es id ≡ Some c → value_at symbol_id_cmp (es ++ more) id ≡ Some c
value-more [] more id c h = absurd (none-some c h)
value-more (e ∷ es) more id c h = grind (arith, value-more es more id c)

pub value-last : (es : List Entry) (e : Entry) → IsOrdered symbol_id_cmp (es ++ e ∷ [])
    → value_at symbol_id_cmp (es ++ e ∷ []) e.0 ≡ Some e.1
value-last es e r = value_there symbol_id_total _ e [] r

-- ---- the start

pub new-scan : (key : Key) (info : Information) (w : PartitionScan) (c : Counted) →
    ((held : List Entry) → walk_of w held ≡ at_start info held) → IsCount c [] → Scans
    (record { key = key; info = info; walk = w; wanted = c }) (at_begin key info)
unfolding shown held_bytes
new-scan key info w c e i =
    let start = ap symbols_left (e []) ∙ blocks_from-all _ in
    let run = ap (λ (y : Walk). y.run) (e []) in
    record {
      key_is = refl;
      info_is = refl;
      begins = ([], refl);
      walks = λ more r k h. record {
        walk = rw (e _) (start-walk _ more r k);
        gaps_are = sym (ap gaps_left (e _) ∙ start-left _ _);
      };
      done = record {
        done = [];
        all = sym start;
        held = λ id c. absurd (none_in _ c);
        values = refl;
        no_run = run;
        no_gap = refl;
      };
      counts = i;
      ahead_is = (omega (arith, ap (λ (xs : List SymbolId). length xs) start, ap one_run run));
    }

pub new-within : (w : PartitionScan) (c : Counted) → IsCount c [] → w.run ≡ None → CountsWithin w c
new-within w c i r = omega (arith, ap run_length r, how-nil)

pub counts-wants : (o : ScanState) (s : Scanned) (F : List Fact) → Scans o s → GaveAll s F
    → IsCount o.wanted (wants F s.key s.info)
counts-wants o s F q g = search (rules, runs-listed)
