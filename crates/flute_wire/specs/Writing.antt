-- The datagrams that are written: their one form, and why a packet is not written.
use Rattle.std.specs.Prelude.{◌≡◌, ℕ, ◌+◌, ◌*◌, ◌^◌, ◌==◌, nat_lt, nat_le}
use Rattle.std.specs.Prelude.{Bool, false, if◌then◌else◌, List, [], ◌∷◌, ◌++◌}
use Rattle.std.specs.Prelude.{length, Option, Some, None}
use Rattle.byteorder.specs.Endian.{big_bytes}
use Rattle.flute_parts.specs.Information.{Information}
use Rattle.flute_parts.specs.ObjectName.{toi_of, instance_of}
use Rattle.flute_parts.specs.declared.symbol_id.SymbolId.{SymbolId}
use Rattle.flute_parts.specs.declared.key.Key.{Key}
use Rattle.flute_parts.specs.declared.fact.Fact.{Fact}
use Rattle.flute_wire.specs.Content.{Content}
use Rattle.flute_wire.specs.Datagram.{Spells}
use Rattle.flute_wire.specs.Facts.{info_facts, symbol_facts}
use Rattle.flute_wire.specs.declared.writing.WriteFault.{WriteFault}
use Rattle.flute_wire.specs.declared.writing.WriteFault.TheVariants.{Tsi, Toi, EmptySymbol, TooLong}

-- the packet of this object, transmission information and symbol
abbrev pub packet_at : Key → Option Information → Option (SymbolId × List ℕ) → Content
packet_at key info symbol = record {
  tsi = key.session.tsi;
  toi = toi_of key.object;
  instance = instance_of key.object;
  info = info;
  symbol = symbol;
}

-- the facts that this packet sends
abbrev pub outgoing_facts : Key → Option Information → Option (SymbolId × List ℕ) → List Fact
outgoing_facts key info symbol = info_facts key info ++ symbol_facts key symbol

-- EXT_FDT of version 2, for an FDT Instance (RFC 6726, 3.4.1)
abbrev pub fdt_bytes : Option ℕ → List ℕ
fdt_bytes None = []
fdt_bytes (Some instance) = 192 ∷ big_bytes 3 (2 * 2 ^ 20 + instance)

-- EXT_FTI of four words (RFC 5775, 4.2; RFC 5445, 3.2.2.2)
abbrev pub fti_bytes : Option Information → List ℕ
fti_bytes None = []
fti_bytes (Some i) =
    64 ∷ 4 ∷ big_bytes 6 i.transfer_length
    ++ (big_bytes 2 0 ++ (big_bytes 2 i.symbol_length ++ big_bytes 4 i.max_block_length))

-- the FEC Payload ID and the bytes of the symbol (RFC 5445, 3.2.1)
abbrev pub symbol_bytes : Option (SymbolId × List ℕ) → List ℕ
symbol_bytes None = []
symbol_bytes (Some s) = big_bytes 2 s.0.sbn ++ (big_bytes 2 s.0.esi ++ s.1)

-- how many words of 32 bits the extension of an FDT Instance ID takes
abbrev pub fdt_words : Option ℕ → ℕ
fdt_words None = 0
fdt_words (Some instance) = 1

-- how many words of 32 bits the extension of transmission information takes
abbrev pub fti_words : Option Information → ℕ
fti_words None = 0
fti_words (Some i) = 4

-- HDR_LEN: the first word, congestion control information, TSI and TOI of a word each,
-- and the extensions
abbrev pub words_to_write : Content → ℕ
words_to_write c = 4 + fdt_words c.instance + fti_words c.info

-- V = 1, C = 0, S = 1, O = 1, H = 0 and codepoint 0 (RFC 5651, 5.1)
abbrev pub word_bytes : ℕ → List ℕ
word_bytes words = 16 ∷ 160 ∷ words ∷ 0 ∷ []

-- the datagram: first word, congestion control information 0, TSI, TOI, extensions and symbol
abbrev pub spelling : Content → List ℕ
spelling c =
    word_bytes (words_to_write c)
    ++ (big_bytes 4 0
    ++ (big_bytes 4 c.tsi
    ++ (big_bytes 4 c.toi
    ++ ((fdt_bytes c.instance ++ fti_bytes c.info) ++ symbol_bytes c.symbol))))

-- the datagram spells the packet, in that form
pub record IsWritten (d : List ℕ) (c : Content) : Type 0 where
  pub spelled : Spells d c
  pub form : d ≡ spelling c

-- whether there is a symbol, of no byte
abbrev pub has_no_byte : Option (SymbolId × List ℕ) → Bool
has_no_byte None = false
has_no_byte (Some s) = length s.1 == 0

-- why the packet is not written, the first that applies
abbrev pub write_fault : Content → Option WriteFault
write_fault c =
    if nat_le (2 ^ 32) c.tsi then Some Tsi else (
    if nat_le (2 ^ 32) c.toi then Some Toi else (
    if has_no_byte c.symbol then Some EmptySymbol else (
    if nat_lt 65535 (length (spelling c)) then Some TooLong else None)))
