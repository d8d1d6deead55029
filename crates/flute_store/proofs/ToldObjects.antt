-- An object and the facts of the store's content: its symbols, and what is wanted of it.
use Rattle.flute_store.proofs.Maps.{Entry}
use Rattle.std.proofs.Common.{rules}
use Rattle.std.proofs.Common.{◌≡◌, ◌≢◌, ℕ, List, false, Option, Some, None, refl, sym, ap, ◌∙◌}
use Rattle.std.proofs.Common.{◌↔◌, ◌+◌, length}
use Rattle.std.specs.Ordering.{eq_by_cmp}
use Rattle.flute_store.specs.GapsLeft.{GapsLeft}
use Rattle.std.proofs.lemmas.Cmp.{eq_by_cmp_equiv}
use Rattle.flute_store.proofs.Found.{known-fact}
use Rattle.std.proofs.lemmas.Map.Views.{IsSome-lookup_from_Contains, Contains-keys_from_lookup}
use Rattle.flute_store.{specs.GapAnswers.{GivesGaps}, proofs.Lookups.{blocks_from-all}}
use Rattle.flute_store.proofs.Common
use Common.{Contains, Equal-is, keys_of, IsKnown, value_at, Cell, each-value_at, false≢true, Gap}
use Common.{symbol_address, fact_at, symbol_id_cmp, symbol_id_place, symbol_id_total, Key, SymbolId}
use Common.{Fact, Object, symbol_fact, IsTold}
use Common.{info_address, One, Information, sizes, ids, Info, want, wants, runs}
use Common.{want_cell, wanted, at_start, left, gaps_left}

pub ids_told : {n : ℕ} (F : List Fact) (key : Key) (x : Object n) → IsTold F key x → (id : SymbolId)
    → Contains (keys_of x.symbols) id ↔ (fact_at F (symbol_address key id) ≢ None)
ids_told F key x t id = by_found _ refl
  where
    by_found : (found : Option (Cell (List ℕ))) → value_at symbol_id_cmp x.symbols id ≡ found
        → Contains (keys_of x.symbols) id ↔ (fact_at F (symbol_address key id) ≢ None)
    by_found None e = (
      λ c. absurd (false≢true
          (rw e at (IsSome-lookup_from_Contains (eq_by_cmp_equiv symbol_id_total) id x.symbols c))),
      λ
          h. absurd (h (t.each _ ∙ ap (symbol_fact key _) e)),
    )
    by_found (Some c) e =
        let known = each-value_at symbol_id_cmp IsKnown _ id c t.object.symbols_are.each e in (
          λ _ z. known-fact key id c known (sym (t.each id ∙ ap (symbol_fact _ id) e) ∙ z),
          λ _.
              Contains-keys_from_lookup {eq = eq_by_cmp symbol_id_cmp}
              (λ p q t. symbol_id_place p q ((Equal-is _).0 t)) id x.symbols (rw e),
        )

-- ---- what is wanted of an object, and its bytes, from the symbols that are held

pub want-symbol : (info : Information) (key : Key) (id : SymbolId) (found : Option (Cell (List ℕ)))
    → want info id (symbol_fact key id found) ≡ want_cell info id found
want-symbol = search rules

-- what is wanted of an object follows from its held symbols
pub wants-told : {n : ℕ} (F : List Fact) (key : Key) (x : Object n) (info : Information)
    → IsTold F key x → wants F key info ≡ wanted info x.symbols (ids info)
unfolding wants wanted
wants-told = search rules

-- a walk begins with all symbols of the partition
pub start-left : (info : Information) (held : List Entry)
    → gaps_left (at_start info held) ≡ runs (wanted info held (ids info))
unfolding left
start-left info held = rw (blocks_from-all info)

pub told-information : {n : ℕ} (F : List Fact) (key : Key) (x : Object n) (info : Information)
    → IsTold F key x → x.info ≡ One info → fact_at F (info_address key) ≡ Some (Info key info)
told-information = search rules

-- the facts give an object this one information and the symbols that are held, whose gaps these
-- are
pub record ToldGaps {n : ℕ} (F : List Fact) (key : Key) (x : Object n) (info : Information)
    (held : List Entry) (gs : List Gap) : Type 0 where
  pub told : IsTold F key x
  pub info_is : x.info ≡ One info
  pub held_is : held ≡ x.symbols
  pub gaps_are : gs ≡ runs (wanted info held (ids info))

-- no symbol was passed, no block begun, and no tick taken
pub record Begins (info : Information) (held : List Entry) (g : GapsLeft)
    : Type 0 where
  pub held_is : g.held ≡ keys_of held
  pub begun_is : g.begun ≡ 0
  pub blocks_are : g.blocks ≡ length (sizes info)
  pub ended_is : g.ended ≡ false
  pub ticks_are : g.ticks ≡ 0
  pub bound_is : g.bound ≡ length (sizes info) + length held + 1

pub gives-gaps : {n : ℕ} {F : List Fact} {key : Key} {x : Object n} {info : Information}
    {held : List Entry} (g : GapsLeft) → ToldGaps F key x info held g.gaps
    → Begins info held g → GivesGaps F key g
gives-gaps {n} {F} {key} {x} {info} {held} g t b =
    let told = t.told in
    let k = b.held_is ∙ ap keys_of t.held_is in record {
      info = info;
      information = told-information F _ x _ told t.info_is;
      gaps_are = rw (t.gaps_are, t.held_is, ← wants-told F key x _ told);
      rising = rw k told.object.symbols_are.ordered;
      held_are = rw k (ids_told F _ x told);
      begun_is = b.begun_is;
      blocks_are = b.blocks_are;
      ended_is = b.ended_is;
      ticks_are = b.ticks_are;
      bound_is = rw (b.bound_is, told.count, t.held_is) refl;
    }
