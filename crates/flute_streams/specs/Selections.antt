-- Facts that are selected by their addresses and kinds.
use Rattle.std.specs.Prelude.{ℕ, Bool, true, false, not, ◌&&◌, ◌||◌, ◌==◌, Option, Some, None}
use Rattle.std.specs.Prelude.{List, filter, is_some}
use Rattle.std.specs.List.{count_by}
use Rattle.std.specs.BTreeSet.{BTreeSet, contains}
use Rattle.flute_parts.specs.Addresses.{address}
use Rattle.flute_parts.specs.Order.{key_cmp}
use Rattle.flute_parts.specs.declared.address.Part.{Part}
use Rattle.flute_parts.specs.declared.address.Part.TheVariants.{Info as InfoPart, Symbol}
use Rattle.flute_parts.specs.declared.fact.Fact.{Fact}
use Rattle.flute_parts.specs.declared.fact.Fact.TheVariants.{InfoConflict, SymbolConflict}
use Rattle.flute_parts.specs.declared.key.Key.{Key}
use Rattle.flute_parts.specs.declared.symbol_id.SymbolId.{SymbolId}
use Rattle.flute_streams.specs.Scopes.{is_all, takes_key}
use Rattle.flute_streams.specs.declared.choice.selection.AllBut.{AllBut}
use Rattle.flute_streams.specs.declared.choice.selection.Selection.{Selection}

-- it is this one, or any is meant
abbrev pub selects_sender : Option ℕ → ℕ → Bool
selects_sender None sender = true
selects_sender (Some one) sender = sender == one

-- whether a part of an object is the symbol that is asked for, or none is asked for
abbrev pub selects_symbol : Option SymbolId → Part → Bool
selects_symbol None part = true
selects_symbol (Some one) InfoPart = false
selects_symbol (Some one) (Symbol id) = one.sbn == id.sbn && one.esi == id.esi

-- it is the information, or any part is meant
abbrev pub is_info : Part → Bool
is_info InfoPart = true
is_info (Symbol id) = false

-- whether a part of an object is information, or not only that is asked for
abbrev pub selects_info : Bool → Part → Bool
selects_info info part = not info || is_info part

-- whether a fact is a conflict: its address has two different values
abbrev pub is_conflict : Fact → Bool
is_conflict (InfoConflict key) = true
is_conflict (SymbolConflict key id) = true
is_conflict fact = false

-- it is a conflict, or any fact is meant
abbrev pub selects_kind : Bool → Fact → Bool
selects_kind conflicts fact = not conflicts || is_conflict fact

-- the object is of the sender that is meant, and is taken
abbrev pub selects_key : Selection → Key → Bool
selects_key s key = selects_sender s.sender key.session.sender && takes_key s.scope key

-- the fact is selected: its object, its part of that, and its kind are meant
abbrev pub selects : Selection → Fact → Bool
selects s fact =
    selects_key s (address fact).key && selects_symbol s.symbol (address fact).part
    && selects_info s.info (address fact).part && selects_kind s.conflicts fact

-- nothing narrows it
abbrev pub is_everything : Selection → Bool
is_everything s =
    not (is_some s.sender) && is_all s.scope && not (is_some s.symbol) && not s.info
    && not s.conflicts

-- what is selected is left out of all objects
abbrev pub all_but : Selection → AllBut
all_but selection = record { selection = selection; listed = None }

-- the same, of these objects alone
abbrev pub all_but_of : BTreeSet Key → Selection → AllBut
all_but_of keys selection = record { selection = selection; listed = Some keys }

-- the object is listed, or there is no list
abbrev pub is_listed : Option (BTreeSet Key) → Key → Bool
is_listed None key = true
is_listed (Some keys) key = contains key_cmp keys key

-- a fact is left out: it is selected, and its object listed
abbrev pub leaves_out : AllBut → Fact → Bool
leaves_out rest fact = is_listed rest.listed (address fact).key && selects rest.selection fact

-- a fact is left
abbrev pub leaves : AllBut → Fact → Bool
leaves rest fact = not (leaves_out rest fact)

-- the facts that are left once others are taken out
abbrev pub left : AllBut → List Fact → List Fact
left rest facts = filter (leaves rest) facts

-- how many are taken out
abbrev pub left_out_in : AllBut → List Fact → ℕ
left_out_in rest facts = count_by (leaves_out rest) facts
