-- What names a session.
use Rattle.std.specs.Prelude.{ℕ, ◌<◌, ◌^◌}

-- its sender's address and its Transport Session Identifier, which is scoped by that address
-- (RFC 5651, 5.1)
pub record Session : Type 0 where
  pub sender : ℕ
  pub tsi : ℕ

-- the session of a sender with this TSI
abbrev pub session : ℕ → ℕ → Session
session sender tsi = record { sender = sender; tsi = tsi }

-- an IPv6 address has 128 bits (RFC 4291, 2)
abbrev pub IsSender : ℕ → Type 0
IsSender sender = sender < 2 ^ 128

-- a Transport Session Identifier has at most 48 (RFC 5651, 5.1)
abbrev pub IsTsi : ℕ → Type 0
IsTsi tsi = tsi < 2 ^ 48

-- a session whose numbers are within their ranges
abbrev pub IsSession : Session → Type 0
IsSession session = IsSender session.sender × IsTsi session.tsi
