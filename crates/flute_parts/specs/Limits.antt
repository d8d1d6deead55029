-- How many sessions, objects and symbols a list of facts names.
use Rattle.std.specs.Prelude.{ℕ, Bool, ◌<◌, not, if◌then◌else◌, List, [], ◌∷◌}
use Rattle.std.specs.Prelude.{length, filter, filter_map, Option, Some, None}
use Rattle.flute_parts.specs.Session.{Session}
use Rattle.flute_parts.specs.Order.{same_session, same_object, same_key, same_symbol_id}
use Rattle.flute_parts.specs.Addresses.{address}
use Rattle.flute_parts.specs.declared.object_key.ObjectName.{ObjectName}
use Rattle.flute_parts.specs.declared.key.Key.{Key}
use Rattle.flute_parts.specs.declared.symbol_id.SymbolId.{SymbolId}
use Rattle.flute_parts.specs.declared.address.Part.{Part}
use Rattle.flute_parts.specs.declared.address.Part.TheVariants.{Info as InfoPart}
use Rattle.flute_parts.specs.declared.address.Part.TheVariants.{Symbol as SymbolPart}
use Rattle.flute_parts.specs.declared.address.Address.{Address}
use Rattle.flute_parts.specs.declared.fact.Fact.{Fact}

-- each element once, at its first place
abbrev pub firsts : {X : Type 0} → (X → X → Bool) → List X → List X
firsts same [] = []
firsts same (x ∷ xs) = x ∷ filter (λ y. not (same x y)) (firsts same xs)

-- what the addresses of facts name, fact by fact
abbrev pub named : {X : Type 0} → (Address → Option X) → List Fact → List X
named name facts = filter_map (λ f. name (address f)) facts

-- the session that an address names
abbrev pub session_of : Address → Option Session
session_of a = Some a.key.session

-- the object that it names, if it is of the session
abbrev pub object_of : Session → Address → Option ObjectName
object_of session a = if same_session a.key.session session then Some a.key.object else None

-- the symbol that a part is, if it is one
abbrev pub symbol_in : Part → Option SymbolId
symbol_in InfoPart = None
symbol_in (SymbolPart id) = Some id

-- the symbol that it names, if it is of the object
abbrev pub symbol_of : Key → Address → Option SymbolId
symbol_of key a = if same_key a.key key then symbol_in a.part else None

-- the sessions, the objects of a session and the symbols of an object that facts name
unfoldable pub sessions : List Fact → List Session
sessions facts = firsts same_session (named session_of facts)

unfoldable pub objects : List Fact → Session → List ObjectName
objects facts session = firsts same_object (named (object_of session) facts)

unfoldable pub symbols : List Fact → Key → List SymbolId
symbols facts key = firsts same_symbol_id (named (symbol_of key) facts)

-- the facts name more than s sessions, more than o objects of one session or more than y
-- symbols of one object
pub data Over (F : List Fact) (s o y : ℕ) : Type 0 where
  more_sessions : s < length (sessions F) → Over F s o y
  more_objects : (session : Session) → o < length (objects F session) → Over F s o y
  more_symbols : (key : Key) → y < length (symbols F key) → Over F s o y
