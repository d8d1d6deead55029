-- An object of which something is known has a fact.
use Rattle.std.specs.Prelude.{◌≡◌, ◌≢◌, ℕ, List, [], ◌∷◌, ◌++◌, refl}
use Rattle.flute_join.specs.Cell.{IsKnown}
use Rattle.flute_join.specs.JoinMap.{EachValue}
use Rattle.flute_join.specs.declared.cell.Cell.{Cell}
use Rattle.flute_join.specs.declared.cell.Cell.TheVariants.{Absent, One, Conflict}
use Rattle.flute_parts.specs.Information.{Information}
use Rattle.flute_parts.specs.declared.key.Key.{Key}
use Rattle.flute_parts.specs.declared.symbol_id.SymbolId.{SymbolId}
use Rattle.flute_parts.specs.declared.fact.Fact.{Fact}
use Rattle.flute_store.specs.declared.object.Object.{Object}
use Rattle.flute_store.specs.Content.{info_cell_facts, symbol_cell_facts, symbols_facts}
use Rattle.flute_store.specs.Content.{object_facts}
use Rattle.flute_store.specs.WellFormed.{IsObject}

cell_has : (key : Key) (id : SymbolId) (c : Cell (List ℕ)) (F : List Fact) → IsKnown c
    → symbol_cell_facts key id c ++ F ≢ []
cell_has key id Absent F h = λ e. h refl
cell_has key id (One b) F h = λ e. cc
cell_has key id Conflict F h = λ e. cc

symbols_have : (key : Key) (es : List (SymbolId × Cell (List ℕ))) → EachValue IsKnown es → es ≢ []
    → symbols_facts key es ≢ []
symbols_have key [] a h = λ e. h refl
symbols_have key (e ∷ es) a h = cell_has key e.0 e.1 (symbols_facts key es) a.0

by_info : (key : Key) (c : Cell Information) (F : List Fact) → (c ≡ Absent → F ≢ [])
    → info_cell_facts key c ++ F ≢ []
by_info key Absent F h = h refl
by_info key (One i) F h = λ e. cc
by_info key Conflict F h = λ e. cc

pub object_has_facts : (n : ℕ) (x : Object n) (key : Key) → IsObject x → object_facts key x ≢ []
object_has_facts n x key p =
    by_info key x.info (symbols_facts key x.symbols)
    (λ e. symbols_have key x.symbols p.symbols_are.each (p.some e))
