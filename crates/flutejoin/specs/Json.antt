-- The lines of `--json`: each is an object of JSON (RFC 8259) in ASCII, without spaces.
use Rattle.std.specs.Prelude.{ℕ, ◌==◌, if◌then◌else◌, Bool, true, false, List, [], ◌++◌}
use Rattle.std.specs.Prelude.{codes, decimal, length, Option, Some, None}
use Rattle.std.specs.Int.{bytes_high_first}
use Rattle.hex.specs.Hex.{encode_lower}
use Rattle.flute_parts.specs.Information.{Information}
use Rattle.flute_parts.specs.declared.fact.Fact.{Fact}
use Rattle.flute_parts.specs.declared.fact.Fact.TheVariants.{Info, InfoConflict, Symbol}
use Rattle.flute_parts.specs.declared.fact.Fact.TheVariants.{SymbolConflict}
use Rattle.flute_parts.specs.declared.key.Key.{Key}
use Rattle.flute_parts.specs.declared.object_key.ObjectName.{ObjectName}
use Rattle.flute_parts.specs.declared.object_key.ObjectName.TheVariants.{Instance, File}
use Rattle.flute_parts.specs.declared.symbol_id.SymbolId.{SymbolId}
use Rattle.flute_wire.specs.Content.{Content}
use Rattle.flute_wire.specs.Facts.{object_named}
use Rattle.flutejoin.specs.Lines.{line}
use Rattle.flutejoin.specs.SymbolSums.{symbol_sum}

-- an object of these members (RFC 8259, 4)
abbrev pub braced : List ℕ → List ℕ
braced members = codes "{" ++ members ++ codes "}"

-- a line of JSON with these members
abbrev pub json_line : List ℕ → List ℕ
json_line members = line (braced members)

-- a file by its TOI, a string, since it may have 112 bits; an FDT Instance by its ID, a number
abbrev pub json_object : ObjectName → List ℕ
json_object (File toi) = codes "\"toi\":\"" ++ decimal toi ++ codes "\""
json_object (Instance instance) = codes "\"fdt\":" ++ decimal instance

-- a sender's address in 32 digits, if it is not 0
abbrev pub json_source : ℕ → List ℕ
json_source sender =
    if sender == 0 then []
    else codes "\"source\":\"" ++ encode_lower (bytes_high_first 16 sender) ++ codes "\","

-- a session by its sender and its TSI, and its object
abbrev pub json_name : Key → List ℕ
json_name key =
    json_source key.session.sender ++ codes "\"tsi\":" ++ decimal key.session.tsi ++ codes ","
    ++ json_object key.object

-- the member of a line with transmission information
abbrev pub json_information : Information → List ℕ
json_information i =
    codes "\"info\":{\"length\":" ++ decimal i.transfer_length ++ codes ",\"symbol\":"
    ++ decimal i.symbol_length ++ codes ",\"block\":" ++ decimal i.max_block_length ++ codes "}"

-- the block and the symbol in it; what else there is of the symbol follows, and then a brace
abbrev pub json_id : SymbolId → List ℕ
json_id id = codes "\"symbol\":{\"sbn\":" ++ decimal id.sbn ++ codes ",\"esi\":" ++ decimal id.esi

-- the members about a symbol: which it is, and how many bytes it has
abbrev pub json_symbol : SymbolId → ℕ → List ℕ
json_symbol id len = json_id id ++ codes ",\"length\":" ++ decimal len

-- the sum of a symbol's bytes, if it is asked for
abbrev pub json_sum : Bool → List ℕ → List ℕ
json_sum false bytes = []
json_sum true bytes = codes ",\"sum\":\"" ++ encode_lower (symbol_sum bytes) ++ codes "\""

-- a fact: all that its line says but for a symbol's bytes; and their sum, if it is asked for
abbrev pub fact_members : Bool → Fact → List ℕ
fact_members sums (Info key info) = json_name key ++ codes "," ++ json_information info
fact_members sums (InfoConflict key) = json_name key ++ codes ",\"info\":\"conflict\""
fact_members sums (Symbol key id bytes) =
    json_name key ++ codes "," ++ json_symbol id (length bytes) ++ json_sum sums bytes
    ++ codes "}"
fact_members sums (SymbolConflict key id) =
    json_name key ++ codes "," ++ json_id id ++ codes ",\"conflict\":true}"

unfoldable pub json_fact_line : Bool → Fact → List ℕ
json_fact_line sums fact = json_line (fact_members sums fact)

-- what was counted, and how many
unfoldable pub json_count_line : List ℕ → ℕ → List ℕ
json_count_line word n = json_line (codes "\"" ++ word ++ codes "\":" ++ decimal n)

-- the member of a line with transmission information, `null` if there is none
abbrev pub json_info_or_null : Option Information → List ℕ
json_info_or_null None = codes "\"info\":null"
json_info_or_null (Some info) = json_information info

-- a packet's symbol, with its bytes
abbrev pub json_symbol_or_null : Option (SymbolId × List ℕ) → List ℕ
json_symbol_or_null None = codes "\"symbol\":null"
json_symbol_or_null (Some symbol) =
    json_symbol symbol.0 (length symbol.1) ++ codes ",\"bytes\":\"" ++ encode_lower symbol.1
    ++ codes "\"}"

-- the four lines of a packet
unfoldable pub json_packet_lines : Content → List ℕ
json_packet_lines c =
    json_line (codes "\"tsi\":" ++ decimal c.tsi)
    ++ (json_line (json_object (object_named c.toi c.instance))
    ++ (json_line (json_info_or_null c.info) ++ json_line (json_symbol_or_null c.symbol)))
