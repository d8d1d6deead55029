-- The entries that are given of a journal.
use Rattle.std.specs.Prelude.{◌≡◌, ℕ, List, [], length, Option, Some, None, ⊤}
use Rattle.std.specs.List.{AllZip}
use Rattle.flute_parts.specs.Information.{Information}
use Rattle.flute_parts.specs.declared.fact.Fact.{Fact}
use Rattle.flute_parts.specs.declared.fact.Fact.TheVariants.{Info, InfoConflict, Symbol}
use Rattle.flute_parts.specs.declared.fact.Fact.TheVariants.{SymbolConflict}
use Rattle.flute_parts.specs.declared.symbol_id.SymbolId.{SymbolId}
use Rattle.flute_journal.specs.Format.{fact_key, kind}
use Rattle.flute_journal.specs.Framing.{HasFault}
use Rattle.flute_journal.specs.Journal.{IsJournalWithin}
use Rattle.flute_journal.specs.JournalFraming.{journal_framing}
use Rattle.flutejoin.specs.declared.command_fault.CommandFault.{CommandFault}
use Rattle.flutejoin.specs.declared.command_fault.CommandFault.TheVariants.{Input, OutOfMemory}
use Rattle.flutejoin.specs.declared.limits.TheConstants.{MAX_ENTRIES}
use Rattle.flutejoin_c.specs.Gives.{filled}
use Rattle.flutejoin_c.specs.Objects.{Names}
use Rattle.flutejoin_c.specs.Packets.{info_in, symbol_in}
use Rattle.flutejoin_c.specs.declared.entries.EntryFields.{EntryFields}

-- the transmission information that an entry says
abbrev pub info_of : Fact → Option Information
info_of (Info key info) = Some info
info_of (InfoConflict key) = None
info_of (Symbol key id bytes) = None
info_of (SymbolConflict key id) = None

-- the symbol of an entry, and its bytes: none of a conflict
abbrev pub symbol_of : Fact → Option (SymbolId × List ℕ)
symbol_of (Info key info) = None
symbol_of (InfoConflict key) = None
symbol_of (Symbol key id bytes) = Some (id, bytes)
symbol_of (SymbolConflict key id) = Some (id, [])

-- the fields say what the entry of a journal says
pub record Says (journal : List ℕ) (fields : EntryFields) (fact : Fact) : Type 0 where
  pub object_is : Names fields.object (fact_key fact)
  pub kind_is : fields.kind ≡ kind fact
  pub info_is : info_in fields.info ≡ info_of fact
  pub symbol_is : symbol_in journal fields.symbol ≡ symbol_of fact

-- the bytes are a journal, and these say what its entries say, one by one
pub record AreEntries (journal : List ℕ) (listed : List EntryFields) : Type 0 where
  pub facts : List Fact
  pub journal_is : IsJournalWithin MAX_ENTRIES journal facts
  pub each : AllZip (Says journal) listed facts

-- as many of them are in the room as fit, and so many there are
pub record GivesEntries (journal : List ℕ) (old new : List EntryFields) (needed : ℕ)
    : Type 0 where
  pub listed : List EntryFields
  pub are : AreEntries journal listed
  pub given : new ≡ filled listed old
  pub counted : needed ≡ length listed

-- why not: the journal has this fault, or there was no memory
abbrev pub EntriesFail : List ℕ → CommandFault → Type 0
EntriesFail journal (Input number fault) =
    (number ≡ 1) × HasFault journal_framing MAX_ENTRIES (Some journal) fault
EntriesFail journal OutOfMemory = ⊤
EntriesFail journal fault = ⊥
