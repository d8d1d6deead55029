-- The objects that are taken.
use Rattle.std.specs.Prelude.{ℕ, List, Bool, true, not, ◌&&◌, ◌||◌, filter, nat_eq, length}
use Rattle.std.specs.Prelude.{Option, Some, None, is_none, is_some}
use Rattle.std.specs.List.{count_by}
use Rattle.flute_parts.specs.Addresses.{address}
use Rattle.flute_parts.specs.ObjectName.{instance_of}
use Rattle.flute_parts.specs.Order.{same_object}
use Rattle.flute_parts.specs.declared.fact.Fact.{Fact}
use Rattle.flute_parts.specs.declared.key.Key.{Key}
use Rattle.flute_parts.specs.declared.object_key.ObjectName.{ObjectName}
use Rattle.flute_streams.specs.Sessions.{listed_tsis, takes}
use Rattle.flute_streams.specs.declared.choice.scope.Scope.{Scope}

-- it is this one, or any is meant
abbrev pub takes_object : Option ObjectName → ObjectName → Bool
takes_object None object = true
takes_object (Some one) object = same_object one object

-- it is no FDT Instance, or any object is meant
abbrev pub takes_kind : Bool → ObjectName → Bool
takes_kind files object = not files || is_none (instance_of object)

-- the object is of the sessions that are taken, and is one of their objects that are
abbrev pub takes_key : Scope → Key → Bool
takes_key scope key =
    takes (listed_tsis scope.sessions) key.session.tsi
    && takes_object scope.object key.object && takes_kind scope.files key.object

-- nothing narrows it
abbrev pub is_all : Scope → Bool
is_all scope =
    nat_eq (length (listed_tsis scope.sessions)) 0 && not (is_some scope.object)
    && not scope.files

-- the object of a fact is taken
abbrev pub is_chosen : (Key → Bool) → Fact → Bool
is_chosen takes fact = takes (address fact).key

-- whether a fact is of an object of the scope
abbrev pub of_scope : Scope → Fact → Bool
of_scope scope = is_chosen (takes_key scope)

-- the facts of the objects that are taken
abbrev pub chosen : (Key → Bool) → List Fact → List Fact
chosen takes facts = filter (is_chosen takes) facts

-- how many facts are of other objects
abbrev pub others_in : (Key → Bool) → List Fact → ℕ
others_in takes facts = count_by (λ f. not (is_chosen takes f)) facts
