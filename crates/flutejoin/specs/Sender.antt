-- Senders on the command line.
use Rattle.std.specs.Prelude.{◌≡◌, ◌⊎◌, ℕ, ◌+◌, ◌*◌, ◌^◌, ◌==◌, if◌then◌else◌, List, length}
use Rattle.std.specs.Prelude.{Option, Some, None, Result, Ok, Err}
use Rattle.std.specs.Net.Addr.{ipv4_bits, ipv6_bits}
use Rattle.std.specs.Net.Grammar.{IsIpText}
use Rattle.std.specs.declared.net.ip_addr.IpAddr.{IpAddr}
use Rattle.std.specs.declared.net.ip_addr.IpAddr.TheVariants.{V4, V6}
use Rattle.hex.specs.Hex.{decode_of}
use Rattle.hex.specs.declared.error.FromHexError.{FromHexError}
use Rattle.flute_parts.specs.BigEndian.{big_endian}

-- 16 bytes are an address, and 4 are an IPv4 address, for which the IPv4-mapped one is taken
-- (RFC 4291, 2.5.5.2)
abbrev pub address_in : List ℕ → Option ℕ
address_in bytes =
    if length bytes == 16 then Some (big_endian bytes)
    else if length bytes == 4 then Some (65535 * 2 ^ 32 + big_endian bytes)
    else None

-- the address that digits stand for, if they are 4 or 16 bytes
abbrev pub address_read : Result (List ℕ) FromHexError → Option ℕ
address_read (Ok bytes) = address_in bytes
address_read (Err fault) = None

-- the sender that hexadecimal digits name
abbrev pub sender_named : List ℕ → Option ℕ
sender_named text = address_read (decode_of text)

-- an address as a number; for an IPv4 address, the IPv4-mapped one (RFC 4291, 2.5.5.2)
abbrev pub address_number : IpAddr → ℕ
address_number (V4 address) = 65535 * 2 ^ 32 + ipv4_bits address
address_number (V6 address) = ipv6_bits address

-- a text names a sender by the digits of its address; and if it names none so, by the address as
-- it is written (RFC 4291, 2.2)
abbrev pub NamesSender : List ℕ → ℕ → Type 0
NamesSender text sender =
    (sender_named text ≡ Some sender)
    ⊎ ((sender_named text ≡ None)
    × ((address : IpAddr) × (IsIpText text address × (sender ≡ address_number address))))
