-- Lines in pieces, as they are written: words, then bytes in hexadecimal, then a line feed.
use Rattle.std.specs.Prelude.{ℕ, List, [], ◌++◌, length, codes, decimal, Option, Some, None}
use Rattle.flute_parts.specs.declared.symbol_id.SymbolId.{SymbolId}
use Rattle.flute_wire.specs.Content.{Content}
use Rattle.flute_wire.specs.Facts.{object_named}
use Rattle.flute_parts.specs.declared.fact.Fact.{Fact}
use Rattle.flute_parts.specs.declared.fact.Fact.TheVariants.{Info, InfoConflict, Symbol}
use Rattle.flute_parts.specs.declared.fact.Fact.TheVariants.{SymbolConflict}
use Rattle.flutejoin.specs.Json.{json_info_or_null, json_object}
use Rattle.flutejoin.specs.Lines.{object_words, info_or_none, key_words, information_words}
use Rattle.flutejoin.specs.Lines.{id_words, symbol_words}

-- the words before a symbol's bytes, or `symbol none`
abbrev pub symbol_head : Option (SymbolId × List ℕ) → List ℕ
symbol_head None = codes "symbol none"
symbol_head (Some symbol) = symbol_words symbol.0 (length symbol.1)

-- the bytes of a symbol; none if there is no symbol
abbrev pub payload : Option (SymbolId × List ℕ) → List ℕ
payload None = []
payload (Some symbol) = symbol.1

-- all before the symbol's bytes
unfoldable pub packet_head : Content → List ℕ
packet_head c =
    codes "session " ++ decimal c.tsi ++ codes "\n" ++ object_words (object_named c.toi c.instance)
    ++ codes "\n" ++ info_or_none c.info ++ codes "\n" ++ symbol_head c.symbol

-- the lines of a packet in JSON, up to that of its symbol
unfoldable pub json_packet_head : Content → List ℕ
json_packet_head c =
    codes "{\"tsi\":" ++ decimal c.tsi ++ codes "}\n{"
    ++ json_object (object_named c.toi c.instance) ++ codes "}\n{" ++ json_info_or_null c.info
    ++ codes "}\n"

-- the words of a fact's line, and the bytes after them
unfoldable pub fact_head : Fact → List ℕ
fact_head (Info key info) = key_words key ++ codes " " ++ information_words info
fact_head (InfoConflict key) = key_words key ++ codes " info conflict"
fact_head (Symbol key id bytes) = key_words key ++ codes " " ++ symbol_words id (length bytes)
fact_head (SymbolConflict key id) = key_words key ++ codes " " ++ id_words id ++ codes " conflict"

-- the bytes of a fact that is a symbol's value
abbrev pub fact_bytes : Fact → List ℕ
fact_bytes (Symbol key id bytes) = bytes
fact_bytes fact = []
