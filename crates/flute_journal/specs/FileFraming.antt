-- How a datagram file is read, record by record.
use Rattle.std.specs.Prelude.{ℕ, ◌+◌, nat_le, true, List, [], ◌∷◌, length, take, drop}
use Rattle.std.specs.Prelude.{Option, None, ⊤}
use Rattle.flute_parts.specs.BigEndian.{big_endian}
use Rattle.flute_journal.specs.declared.fault.ReadFault.{ReadFault}
use Rattle.flute_journal.specs.declared.fault.ReadFault.TheVariants as faults
use Rattle.flute_journal.specs.Faults.{Check, first_fault, cut, opening_fault}
use Rattle.flute_journal.specs.Framing.{Framing}
use Rattle.flute_journal.specs.Records.{file_header, file_frame}

-- the checks of a record of a datagram file: first that there may be so many records
abbrev pub record_checks : ℕ → ℕ → List ℕ → List Check
record_checks limit count bytes =
    (nat_le limit count, faults.TooMany)
    ∷ cut 2 bytes
    ∷ cut (big_endian (take 2 bytes)) (drop 2 bytes)
    ∷ []

-- the fault of what follows so many records: of the next record, if a byte follows
abbrev pub record_fault : ℕ → ℕ → List ℕ → Option ReadFault
record_fault limit count [] = None
record_fault limit count (byte ∷ bytes) = first_fault (record_checks limit count (byte ∷ bytes))

-- the faults that reading a file may have, whatever bytes its source is known to have
abbrev pub IsFileFault : ReadFault → Type 0
IsFileFault faults.Read = ⊤
IsFileFault faults.Magic = ⊤
IsFileFault faults.Version = ⊤
IsFileFault faults.Cut = ⊤
IsFileFault faults.TooMany = ⊤
IsFileFault faults.OutOfMemory = ⊤
IsFileFault _ = ⊥

-- the reading of datagram files
abbrev pub file_framing : Framing (List ℕ) ℕ ⊤
file_framing = record {
  frame = file_frame;
  place_after = λ told ds. length ds;
  next = λ count d. count + 1;
  told = λ count. tt;
  count = λ count. count;
  may_follow = λ count d. true;
  header_fault = opening_fault file_header;
  told_in = λ bytes. tt;
  next_fault = λ count limit bytes. record_fault limit count bytes;
  IsFault = IsFileFault;
}
