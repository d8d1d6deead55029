-- What is asked for by the lines of gaps of some facts, computed from the definitions.
use Rattle.std.specs.Prelude.{◌≡◌, refl, true, false, Bool, ◌&&◌, ℕ, List, [], ◌∷◌, ◌++◌, Option}
use Rattle.std.specs.Prelude.{Some, None, codes}
use Rattle.flute_parts.specs.Addresses.{address}
use Rattle.flute_parts.specs.Facts.{fact_at}
use Rattle.flute_parts.specs.Information.{information, sizes}
use Rattle.flute_parts.specs.Partition.{fits, ids, place, symbol_id}
use Rattle.flute_parts.specs.Session.{session}
use Rattle.flute_parts.specs.declared.fact.Fact.{Fact}
use Rattle.flute_parts.specs.declared.fact.Fact.TheVariants.{Info, Symbol, SymbolConflict}
use Rattle.flute_parts.specs.declared.key.Key.{Key}
use Rattle.flute_parts.specs.declared.object_key.ObjectName.TheVariants.{File}
use Rattle.flute_store.specs.Objects.{wants}
use Rattle.flute_store.specs.declared.status.Status.TheVariants.{Whole}
use Rattle.flute_streams.specs.Selections.{selects, selects_key}
use Rattle.flute_streams.specs.declared.choice.scope.Scope.{Scope}
use Rattle.flute_streams.specs.declared.choice.selection.Selection.{Selection}
use Rattle.flutejoin.specs.FillLists.{asks, status_in}
use Rattle.flutejoin.specs.OwnGaps.{TakesObjects}
use Rattle.flutejoin.specs.Told.{told_of}
use Rattle.flutejoin.specs.declared.fill.asking.Asking.TheVariants.{All as AskAll}
use Rattle.flutejoin.specs.declared.fill.listed_line.ListedLine.{ListedLine}
use Rattle.flutejoin.specs.declared.fill.listed_line.ListedLine.TheVariants.{Object as ObjectLine}

-- a file of one symbol, of which that is held: it is whole
abbrev file : Key
file = record { session = session 0 7; object = File 1 }

abbrev held : List Fact
held = Info file (information 4 4 1) ∷ Symbol file (symbol_id 0 0) (codes "ABCD") ∷ []

abbrev lines : List ListedLine
lines = ObjectLine file (Whole 4) ∷ []

pub told : (told_of held file).status ≡ Whole 4
unfolding wants ids sizes place fits fact_at
told = refl

-- another value of it, and a symbol outside its partition
abbrev other : Fact
other = Symbol file (symbol_id 0 0) (codes "ABCE")

abbrev outside : Fact
outside = Symbol file (symbol_id 1 0) (codes "EFGH")

-- neither is asked for, though a join with it would change what is held
pub unseen : (asks AskAll lines other ≡ false) × (asks AskAll lines outside ≡ false)
    × (fact_at (held ++ other ∷ []) (address other)
    ≡ Some (SymbolConflict file (symbol_id 0 0)))
    × (fact_at held (address outside) ≡ None)
unfolding status_in fact_at
unseen = (refl, refl, refl, refl)

-- what `gaps` selects are objects, by their sender and a scope
abbrev of_scope : Option ℕ → Scope → Selection
of_scope sender scope = record {
  sender = sender;
  scope = scope;
  symbol = None;
  info = false;
  conflicts = false;
}

and_true : (b : Bool) → (b && true && true && true) ≡ b
and_true true = refl
and_true false = refl

pub selects_objects : (sender : Option ℕ) (scope : Scope)
    → TakesObjects (selects (of_scope sender scope))
selects_objects sender scope = record {
  takes_key = selects_key (of_scope sender scope);
  by_key = λ f. and_true (selects_key (of_scope sender scope) (address f).key);
}
