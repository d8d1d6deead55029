-- The lines that the program prints: words, decimal numbers and hexadecimal bytes.
use Rattle.std.specs.Prelude.{ℕ, ◌==◌, if◌then◌else◌, List, [], ◌++◌, length, codes}
use Rattle.std.specs.Prelude.{decimal, Option, Some, None}
use Rattle.std.specs.Int.{bytes_high_first}
use Rattle.hex.specs.Hex.{encode_lower}
use Rattle.flute_parts.specs.Information.{Information}
use Rattle.flute_parts.specs.declared.symbol_id.SymbolId.{SymbolId}
use Rattle.flute_parts.specs.declared.key.Key.{Key}
use Rattle.flute_parts.specs.declared.fact.Fact.{Fact}
use Rattle.flute_parts.specs.declared.fact.Fact.TheVariants.{Info, InfoConflict, Symbol}
use Rattle.flute_parts.specs.declared.fact.Fact.TheVariants.{SymbolConflict}
use Rattle.flute_parts.specs.declared.object_key.ObjectName.{ObjectName}
use Rattle.flute_parts.specs.declared.object_key.ObjectName.TheVariants.{Instance, File}
use Rattle.flute_store.specs.declared.gap.Reason.{Reason}
use Rattle.flute_store.specs.declared.gap.Reason.TheVariants.{Missing, Conflicting, Misfit}
use Rattle.flute_store.specs.declared.gap.Gap.{Gap}
use Rattle.flute_store.specs.declared.status.Status.{Status}
use Rattle.flute_store.specs.declared.status.Status.TheVariants.{NoInformation}
use Rattle.flute_store.specs.declared.status.Status.TheVariants.{ConflictingInformation, Partial}
use Rattle.flute_store.specs.declared.status.Status.TheVariants.{Whole}
use Rattle.flute_wire.specs.Content.{Content}
use Rattle.flute_wire.specs.Facts.{object_named}

-- a line ends with a line feed
abbrev pub line : List ℕ → List ℕ
line words = words ++ codes "\n"

-- a file by its TOI, an FDT Instance by its ID after the word fdt
abbrev pub object_words : ObjectName → List ℕ
object_words (File toi) = codes "object " ++ decimal toi
object_words (Instance instance) = codes "object fdt " ++ decimal instance

-- the words of a line about transmission information
abbrev pub information_words : Information → List ℕ
information_words i =
    codes "info length " ++ decimal i.transfer_length ++ codes " symbol " ++ decimal i.symbol_length
    ++ codes " block " ++ decimal i.max_block_length

-- the block and the symbol in it
abbrev pub id_words : SymbolId → List ℕ
id_words id = codes "symbol " ++ decimal id.sbn ++ codes "/" ++ decimal id.esi

-- and how many bytes
abbrev pub symbol_words : SymbolId → ℕ → List ℕ
symbol_words id len = id_words id ++ codes " length " ++ decimal len ++ codes " "

-- the same, or `info none`
abbrev pub info_or_none : Option Information → List ℕ
info_or_none None = codes "info none"
info_or_none (Some info) = information_words info

-- the words of a line about a packet's symbol, or `symbol none`
abbrev pub symbol_or_none : Option (SymbolId × List ℕ) → List ℕ
symbol_or_none None = codes "symbol none"
symbol_or_none (Some symbol) = symbol_words symbol.0 (length symbol.1) ++ encode_lower symbol.1

-- the four lines of a packet
unfoldable pub packet_lines : Content → List ℕ
packet_lines c =
    line (codes "session " ++ decimal c.tsi)
    ++ (line (object_words (object_named c.toi c.instance))
    ++ (line (info_or_none c.info) ++ line (symbol_or_none c.symbol)))

-- a sender's address in 32 digits, if it is not 0
abbrev pub source_words : ℕ → List ℕ
source_words sender =
    if sender == 0 then []
    else codes "source " ++ encode_lower (bytes_high_first 16 sender) ++ codes " "

-- a session by its sender and its TSI, and its object
abbrev pub key_words : Key → List ℕ
key_words key =
    source_words key.session.sender ++ codes "session " ++ decimal key.session.tsi ++ codes " "
    ++ object_words key.object

-- the words of a fact's line
abbrev pub fact_words : Fact → List ℕ
fact_words (Info key info) = key_words key ++ codes " " ++ information_words info
fact_words (InfoConflict key) = key_words key ++ codes " info conflict"
fact_words (Symbol key id bytes) =
    key_words key ++ codes " " ++ symbol_words id (length bytes) ++ encode_lower bytes
fact_words (SymbolConflict key id) = key_words key ++ codes " " ++ id_words id ++ codes " conflict"

unfoldable pub fact_line : Fact → List ℕ
fact_line fact = line (fact_words fact)

-- what was counted, and how many
unfoldable pub count_line : List ℕ → ℕ → List ℕ
count_line word n = line (word ++ codes " " ++ decimal n)

-- the line with the number of entries
abbrev pub entries_line : ℕ → List ℕ
entries_line n = count_line (codes "entries") n

-- how much of an object is held
abbrev pub status_words : Status → List ℕ
status_words NoInformation = codes "no information"
status_words ConflictingInformation = codes "conflicting information"
status_words (Partial missing conflicting misfit) =
    codes "partial missing " ++ decimal missing ++ codes " conflicting " ++ decimal conflicting
    ++ codes " misfit " ++ decimal misfit
status_words (Whole length) = codes "whole " ++ decimal length

unfoldable pub status_line : Key → Status → List ℕ
status_line key status = line (key_words key ++ codes " " ++ status_words status)

-- and how many of its symbols in conflict are in no gap of its partition
unfoldable pub unplaced_line : Key → Status → ℕ → List ℕ
unplaced_line key status n =
    line (key_words key ++ codes " " ++ status_words status ++ codes " unplaced conflicting "
    ++ decimal n)

-- the word at the end of a gap's line, with its space
abbrev pub reason_words : Reason → List ℕ
reason_words Missing = codes " missing"
reason_words Conflicting = codes " conflicting"
reason_words Misfit = codes " misfit"

-- symbols of one block, from the first to the last
unfoldable pub gap_line : Gap → List ℕ
gap_line g =
    line (codes "gap " ++ decimal g.sbn ++ codes "/" ++ decimal g.first ++ codes "-"
    ++ decimal g.last ++ reason_words g.reason)
