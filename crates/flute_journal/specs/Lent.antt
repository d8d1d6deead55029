-- Entries and records that lie whole in memory.
use Rattle.std.specs.Prelude.{◌≡◌, ℕ, ◌+◌, ◌≤◌, ◌++◌, IfSome, IsTrue, List}
use Rattle.std.specs.Prelude.{length, take, Option, Some, None, Result, Ok, Err}
use Rattle.std.specs.Io.KnownBytes.{Consumes}
use Rattle.flute_parts.specs.Addresses.{address}
use Rattle.flute_parts.specs.declared.address.Address.{Address}
use Rattle.flute_parts.specs.declared.fact.Fact.{Fact}
use Rattle.flute_journal.specs.declared.fault.ReadFault.{ReadFault}
use Rattle.flute_journal.specs.declared.fault.ReadFault.TheVariants.{OutOfMemory}
use Rattle.flute_journal.specs.declared.format.version.Version.{Version}
use Rattle.flute_journal.specs.Format.{entry_in}
use Rattle.flute_journal.specs.Faults.{is_after}
use Rattle.flute_journal.specs.Journal.{IsFactIn}
use Rattle.flute_journal.specs.Records.{IsDatagram, record_of}

-- the bytes begin with the entry of this fact, which has so many bytes and is
-- in order after the last
pub record BeginsWithEntry (version : Version) (last : Option Address) (bytes : List ℕ) (f : Fact)
    (size : ℕ) : Type 0 where
  pub valid : IsFactIn version f
  pub in_order : IsTrue (is_after last (address f))
  pub within : size ≤ length bytes
  pub spelled : take size bytes ≡ entry_in version f

-- the bytes that were left begin with the entry of some fact that is in order after the last
pub record HasEntry (version : Version) (last : Option Address) (left : Option (List ℕ)) : Type 0
  where
    pub fact : Fact
    pub valid : IsFactIn version fact
    pub in_order : IsTrue (is_after last (address fact))
    pub begins : IfSome left (λ bytes. (rest : List ℕ) × (bytes ≡ entry_in version fact ++ rest))

-- the entry of a fact was taken, or nothing: there was no memory for it
abbrev pub TakesEntry : Version → Option Address → Option (List ℕ) → Option (List ℕ)
    → Result (Option Fact) ReadFault → Type 0
TakesEntry version last old new (Ok (Some f)) =
    IsFactIn version f × IsTrue (is_after last (address f)) × Consumes old new (entry_in version f)
TakesEntry version last old new (Ok None) = new ≡ old
TakesEntry version last old new (Err f) =
    (f ≡ OutOfMemory) × (new ≡ old) × HasEntry version last old

-- the bytes begin with the record of this datagram
pub record BeginsWithRecord (bytes datagram : List ℕ) : Type 0 where
  pub valid : IsDatagram datagram
  pub within : 2 + length datagram ≤ length bytes
  pub spelled : take (2 + length datagram) bytes ≡ record_of datagram

-- the record of a datagram was taken, or nothing
abbrev pub TakesRecord : Option (List ℕ) → Option (List ℕ)
    → Result (Option (List ℕ)) ReadFault → Type 0
TakesRecord old new (Ok (Some d)) = IsDatagram d × Consumes old new (record_of d)
TakesRecord old new (Ok None) = new ≡ old
TakesRecord old new (Err f) = (f ≡ OutOfMemory) × (new ≡ old)
