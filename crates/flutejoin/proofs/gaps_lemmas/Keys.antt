-- Two keys are equal exactly if the test of their fields returns true.
use Rattle.std.proofs.Common.{rules}
use Rattle.std.proofs.Common.{◌≡◌, Bool, true, false, ◌&&◌}
use Rattle.std.specs.Prelude.{◌==◌}
use Rattle.flute_parts.specs.Session.{Session}
use Rattle.flute_parts.specs.Order.{same_object}
use Rattle.flute_parts.specs.declared.key.Key.{Key}

abbrev equal : Key → Key → Bool
equal a b = ((a.session.sender == b.session.sender) && (a.session.tsi == b.session.tsi)) &&
    same_object a.object b.object

pub equal_keys : (a b : Key) → true ≡ (((a.session.sender == b.session.sender) &&
    (a.session.tsi == b.session.tsi)) && same_object a.object b.object) → a ≡ b
equal_keys a b t = search rules

equal_itself : (a : Key) → equal a a ≡ true
equal_itself a = search rules

pub other_keys : (a b : Key) → false ≡ (((a.session.sender == b.session.sender) &&
    (a.session.tsi == b.session.tsi)) && same_object a.object b.object) → a ≡ b → ⊥
other_keys a b t e = search rules

pub equal_sessions : (a b : Session) → true ≡ ((a.sender == b.sender) && (a.tsi == b.tsi)) → a ≡ b
equal_sessions a b t = search rules

pub other_sessions : (a b : Session) → false ≡ ((a.sender == b.sender) && (a.tsi == b.tsi)) → a ≡ b
    → ⊥
other_sessions a b t e = search rules
