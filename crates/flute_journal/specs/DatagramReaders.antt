-- What a reader of datagrams is made of, for the contracts of its calls.
use Rattle.std.specs.Prelude.{ℕ}
use Rattle.std.specs.Borrow.{MutBor}
use Rattle.flute_journal.specs.declared.readers.reader_state.ReaderState.{ReaderState}
use Rattle.flute_journal.specs.declared.readers.datagram_reader.DatagramReader.{DatagramReader}

-- the source that it reads
abbrev pub datagrams_source_of : {R : Type 0} → DatagramReader R → MutBor R
datagrams_source_of reader = reader.source

-- how many records its file may have
abbrev pub records_limit_of : {R : Type 0} → DatagramReader R → ℕ
records_limit_of reader = reader.max_records

-- where it is in the file
abbrev pub file_stage_of : {R : Type 0} → DatagramReader R → ReaderState ℕ
file_stage_of reader = reader.state
