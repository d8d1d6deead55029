-- What a reader is made of, for the contracts of its calls.
use Rattle.std.specs.Prelude.{ℕ, Option, Result, Ok, Err}
use Rattle.std.specs.Borrow.{MutBor}
use Rattle.flute_parts.specs.declared.fact.Fact.{Fact}
use Rattle.flute_journal.specs.declared.fault.ReadFault.{ReadFault}
use Rattle.flute_journal.specs.declared.readers.entry_fields.Before.{Before}
use Rattle.flute_journal.specs.declared.readers.reader_state.ReaderState.{ReaderState}
use Rattle.flute_journal.specs.declared.readers.journal_reader.JournalReader.{JournalReader}

-- the source that it reads
abbrev pub source_of : {R : Type 0} → JournalReader R → MutBor R
source_of reader = reader.source

-- how many entries its journal may have
abbrev pub limit_of : {R : Type 0} → JournalReader R → ℕ
limit_of reader = reader.max_entries

-- where it is in the journal
abbrev pub state_of : {R : Type 0} → JournalReader R → ReaderState Before
state_of reader = reader.state

-- what a call gave that puts the next entry in place of the one that is held
abbrev pub given_into : Result (Unit {0}) ReadFault → Option Fact
    → Result (Option Fact) ReadFault
given_into (Ok done) held = Ok held
given_into (Err fault) held = Err fault
