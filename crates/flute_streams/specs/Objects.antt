-- The objects that are taken: those of a scope, without a list of them.
use Rattle.std.specs.Prelude.{Bool, false, not, ◌&&◌, Option, Some, None, is_none}
use Rattle.std.specs.Option.{option_map}
use Rattle.std.specs.BTreeSet.{BTreeSet, contains}
use Rattle.std.specs.Rc.{rc_value}
use Rattle.flute_parts.specs.Order.{key_cmp}
use Rattle.flute_parts.specs.declared.fact.Fact.{Fact}
use Rattle.flute_parts.specs.declared.key.Key.{Key}
use Rattle.flute_streams.specs.Scopes.{is_all, is_chosen, takes_key}
use Rattle.flute_streams.specs.declared.choice.objects.Objects.{Objects}
use Rattle.flute_streams.specs.declared.choice.scope.Scope.{Scope}

-- the object is listed: of no list, none is
abbrev pub is_left_out : Option (BTreeSet Key) → Key → Bool
is_left_out None key = false
is_left_out (Some keys) key = contains key_cmp keys key

-- the object is of the scope, and not listed
abbrev pub takes_without : Option (BTreeSet Key) → Scope → Key → Bool
takes_without without scope key = not (is_left_out without key) && takes_key scope key

-- the objects that are listed, if there is a list
abbrev pub listed : Objects → Option (BTreeSet Key)
listed objects = option_map (λ keys. rc_value keys) objects.without

-- whether an object is of the scope, and not in the list
abbrev pub is_taken : Objects → Key → Bool
is_taken objects key = takes_without (listed objects) objects.scope key

-- whether a fact is of such an object
abbrev pub of_objects : Objects → Fact → Bool
of_objects objects = is_chosen (is_taken objects)

-- nothing narrows them
abbrev pub takes_all : Objects → Bool
takes_all objects = is_none objects.without && is_all objects.scope
