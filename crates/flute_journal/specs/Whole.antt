-- A journal that is read whole, or up to a fault.
use Rattle.std.specs.Prelude.{◌≡◌, ℕ, ◌≤◌, ◌⊎◌, List, [], ◌++◌, length, Option, IfSome}
use Rattle.std.specs.Io.KnownBytes.{Consumes}
use Rattle.flute_parts.specs.declared.fact.Fact.{Fact}
use Rattle.flute_journal.specs.declared.fault.ReadFault.{ReadFault}
use Rattle.flute_journal.specs.declared.fault.ReadFault.TheVariants as faults
use Rattle.flute_journal.specs.Format.{header, entry_in, without_end_in}
use Rattle.flute_journal.specs.Input.{IsWithin}
use Rattle.flute_journal.specs.Journal.{IsFactIn, IsJournalWithin, journal_frame}
use Rattle.flute_journal.specs.JournalFraming.{journal_framing}
use Rattle.flute_journal.specs.Framing.{Stops}
use Rattle.flute_journal.specs.Frame.{AreItems}

-- of a journal these entries were read, at most so many, and of what follows no byte after
-- one more; or no more bytes than the header has
pub data ReadsPart (limit : ℕ) (old new : Option (List ℕ)) (entries : List Fact) : Type 0 where
  in_header : entries ≡ [] → (part : List ℕ) → Consumes old new part → length part ≤ length header
      → ReadsPart limit old new entries
  after_entries : (a : AreItems journal_frame limit entries) → (more : List ℕ)
      → Consumes old new (without_end_in a.told entries ++ more)
      → IsWithin (entry_in a.told) (IsFactIn a.told) more → ReadsPart limit old new entries

-- Reading stopped after these entries: they are those before the fault of the bytes. If the source
-- failed, the bytes that were read are cut after them, or are the whole journal of them; if memory
-- ran out, they were read.
abbrev pub StopsAfter : ℕ → List Fact → Option (List ℕ) → Option (List ℕ) → ReadFault → Type 0
StopsAfter limit entries old new faults.Read =
    (part : List ℕ) × Consumes old new part
    × (Stops journal_framing part limit entries faults.Cut ⊎ IsJournalWithin limit part entries)
StopsAfter limit entries old new faults.OutOfMemory = ReadsPart limit old new entries
StopsAfter limit entries old new f =
    IfSome old (λ bytes. Stops journal_framing bytes limit entries f)
