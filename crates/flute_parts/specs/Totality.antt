-- The orders of names and addresses are total.
use Rattle.std.specs.Prelude.{◌≡◌, refl}
use Rattle.std.specs.declared.cmp.Ordering.TheVariants.{Less, Equal}
use Rattle.std.specs.Ordering.{ordering_reverse}
use Rattle.std.specs.Cmp.{IsTotalOrder, IsEquivalence, nat_cmp_total, nat_eq_equiv, then_total}
use Rattle.std.specs.Cmp.{on_total, and_equiv, on_equiv}
use Rattle.flute_parts.specs.Session.{Session}
use Rattle.flute_parts.specs.Information.{Information}
use Rattle.flute_parts.specs.declared.object_key.ObjectName.{ObjectName}
use Rattle.flute_parts.specs.declared.object_key.ObjectName.TheVariants.{Instance, File}
use Rattle.flute_parts.specs.declared.key.Key.{Key}
use Rattle.flute_parts.specs.declared.symbol_id.SymbolId.{SymbolId}
use Rattle.flute_parts.specs.declared.address.Part.{Part}
use Rattle.flute_parts.specs.declared.address.Part.TheVariants.{Info as InfoPart}
use Rattle.flute_parts.specs.declared.address.Part.TheVariants.{Symbol as SymbolPart}
use Rattle.flute_parts.specs.declared.address.Address.{Address}
use Rattle.flute_parts.specs.Order.{session_cmp, object_cmp, key_cmp, symbol_id_cmp, part_cmp}
use Rattle.flute_parts.specs.Order.{address_cmp}
use Rattle.flute_parts.specs.Facts.{same_information}

pub session_total : IsTotalOrder session_cmp
session_total =
    then_total (on_total (λ (s : Session). s.sender) nat_cmp_total)
    (on_total (λ (s : Session). s.tsi) nat_cmp_total)

object_reversed : (x y : ObjectName) → object_cmp x y ≡ ordering_reverse (object_cmp y x)
object_reversed (Instance m) (Instance n) = nat_cmp_total.antisymm m n
object_reversed (Instance m) (File n) = refl
object_reversed (File m) (Instance n) = refl
object_reversed (File m) (File n) = nat_cmp_total.antisymm m n

object_trans : (x y z : ObjectName) → object_cmp x y ≡ Less → object_cmp y z ≡ Less
    → object_cmp x z ≡ Less
object_trans (Instance m) (Instance n) (Instance o) p q = nat_cmp_total.trans m n o p q
object_trans (Instance m) (Instance n) (File o) p q = refl
object_trans (Instance m) (File n) (Instance o) p q = cc
object_trans (Instance m) (File n) (File o) p q = refl
object_trans (File m) (Instance n) z p q = cc
object_trans (File m) (File n) (Instance o) p q = cc
object_trans (File m) (File n) (File o) p q = nat_cmp_total.trans m n o p q

object_alike : (x y z : ObjectName) → object_cmp x y ≡ Equal → object_cmp x z ≡ object_cmp y z
object_alike (Instance m) (Instance n) (Instance o) p = nat_cmp_total.congr m n o p
object_alike (Instance m) (Instance n) (File o) p = refl
object_alike (Instance m) (File n) z p = cc
object_alike (File m) (Instance n) z p = cc
object_alike (File m) (File n) (Instance o) p = refl
object_alike (File m) (File n) (File o) p = nat_cmp_total.congr m n o p

pub object_total : IsTotalOrder object_cmp
object_total = record { antisymm = object_reversed; trans = object_trans; congr = object_alike }

pub key_total : IsTotalOrder key_cmp
key_total =
    then_total (on_total (λ (k : Key). k.session) session_total)
    (on_total (λ (k : Key). k.object) object_total)

pub symbol_id_total : IsTotalOrder symbol_id_cmp
symbol_id_total =
    then_total (on_total (λ (s : SymbolId). s.sbn) nat_cmp_total)
    (on_total (λ (s : SymbolId). s.esi) nat_cmp_total)

part_reversed : (x y : Part) → part_cmp x y ≡ ordering_reverse (part_cmp y x)
part_reversed InfoPart InfoPart = refl
part_reversed InfoPart (SymbolPart n) = refl
part_reversed (SymbolPart m) InfoPart = refl
part_reversed (SymbolPart m) (SymbolPart n) = symbol_id_total.antisymm m n

part_trans : (x y z : Part) → part_cmp x y ≡ Less → part_cmp y z ≡ Less → part_cmp x z ≡ Less
part_trans InfoPart InfoPart z p q = cc
part_trans InfoPart (SymbolPart n) InfoPart p q = cc
part_trans InfoPart (SymbolPart n) (SymbolPart o) p q = refl
part_trans (SymbolPart m) InfoPart z p q = cc
part_trans (SymbolPart m) (SymbolPart n) InfoPart p q = cc
part_trans (SymbolPart m) (SymbolPart n) (SymbolPart o) p q = symbol_id_total.trans m n o p q

part_alike : (x y z : Part) → part_cmp x y ≡ Equal → part_cmp x z ≡ part_cmp y z
part_alike InfoPart InfoPart z p = refl
part_alike InfoPart (SymbolPart n) z p = cc
part_alike (SymbolPart m) InfoPart z p = cc
part_alike (SymbolPart m) (SymbolPart n) InfoPart p = refl
part_alike (SymbolPart m) (SymbolPart n) (SymbolPart o) p = symbol_id_total.congr m n o p

pub part_total : IsTotalOrder part_cmp
part_total = record { antisymm = part_reversed; trans = part_trans; congr = part_alike }

pub address_total : IsTotalOrder address_cmp
address_total =
    then_total (on_total (λ (a : Address). a.key) key_total)
    (on_total (λ (a : Address). a.part) part_total)

pub information_equivalence : IsEquivalence same_information
information_equivalence =
    and_equiv (on_equiv (λ (i : Information). i.transfer_length) nat_eq_equiv)
    (and_equiv (on_equiv (λ (i : Information). i.symbol_length) nat_eq_equiv)
    (on_equiv (λ (i : Information). i.max_block_length) nat_eq_equiv))
