-- The order of names and addresses.
use Rattle.std.specs.Prelude.{Bool}
use Rattle.std.specs.declared.cmp.Ordering.{Ordering}
use Rattle.std.specs.declared.cmp.Ordering.TheVariants.{Less, Equal, Greater}
use Rattle.std.specs.Ordering.{nat_cmp, ordering_then, is_eq}
use Rattle.flute_parts.specs.Session.{Session}
use Rattle.flute_parts.specs.declared.object_key.ObjectName.{ObjectName}
use Rattle.flute_parts.specs.declared.object_key.ObjectName.TheVariants.{Instance, File}
use Rattle.flute_parts.specs.declared.key.Key.{Key}
use Rattle.flute_parts.specs.declared.symbol_id.SymbolId.{SymbolId}
use Rattle.flute_parts.specs.declared.address.Part.{Part}
use Rattle.flute_parts.specs.declared.address.Part.TheVariants.{Info as InfoPart}
use Rattle.flute_parts.specs.declared.address.Part.TheVariants.{Symbol as SymbolPart}
use Rattle.flute_parts.specs.declared.address.Address.{Address}

-- sessions by their sender first, and those of one sender by their Transport Session Identifier
-- (RFC 5651, 5.1)
abbrev pub session_cmp : Session → Session → Ordering
session_cmp a b = ordering_then (nat_cmp a.sender b.sender) (nat_cmp a.tsi b.tsi)

-- FDT Instances, which all have the Transport Object Identifier 0 (RFC 6726, 3.4), before files,
-- and each kind by its number
abbrev pub object_cmp : ObjectName → ObjectName → Ordering
object_cmp (Instance m) (Instance n) = nat_cmp m n
object_cmp (Instance m) (File n) = Less
object_cmp (File m) (Instance n) = Greater
object_cmp (File m) (File n) = nat_cmp m n

-- objects by their session first
abbrev pub key_cmp : Key → Key → Ordering
key_cmp a b = ordering_then (session_cmp a.session b.session) (object_cmp a.object b.object)

-- symbols by their block first (RFC 5445, 3.2.1)
abbrev pub symbol_id_cmp : SymbolId → SymbolId → Ordering
symbol_id_cmp a b = ordering_then (nat_cmp a.sbn b.sbn) (nat_cmp a.esi b.esi)

-- the transmission information of an object before its symbols
abbrev pub part_cmp : Part → Part → Ordering
part_cmp InfoPart InfoPart = Equal
part_cmp InfoPart (SymbolPart n) = Less
part_cmp (SymbolPart m) InfoPart = Greater
part_cmp (SymbolPart m) (SymbolPart n) = symbol_id_cmp m n

-- addresses by their object first
abbrev pub address_cmp : Address → Address → Ordering
address_cmp a b = ordering_then (key_cmp a.key b.key) (part_cmp a.part b.part)

-- names and addresses are the same if they compare equal
abbrev pub same_session : Session → Session → Bool
same_session a b = is_eq (session_cmp a b)

-- whether two names of objects are the same
abbrev pub same_object : ObjectName → ObjectName → Bool
same_object a b = is_eq (object_cmp a b)

-- whether two keys are the same
abbrev pub same_key : Key → Key → Bool
same_key a b = is_eq (key_cmp a b)

-- whether two IDs of symbols are the same
abbrev pub same_symbol_id : SymbolId → SymbolId → Bool
same_symbol_id a b = is_eq (symbol_id_cmp a b)

-- whether two addresses are the same
abbrev pub same_address : Address → Address → Bool
same_address a b = is_eq (address_cmp a b)
