-- What of a packet C is told.
use Rattle.std.specs.Prelude.{ℕ, ◌==◌, List, drop, Option, Some, None}
use Rattle.std.specs.Prelude.{if◌then◌else◌, take}
use Rattle.flute_parts.specs.Information.{Information, information}
use Rattle.flute_parts.specs.declared.symbol_id.SymbolId.{SymbolId}
use Rattle.flute_wire.specs.Content.{Content}
use Rattle.flute_wire.specs.Datagram.{Spells}
use Rattle.flute_wire.specs.Refusals.{Refuses}
use Rattle.flutejoin.specs.declared.command_fault.CommandFault.{CommandFault}
use Rattle.flutejoin.specs.declared.command_fault.CommandFault.TheVariants.{Refused}
use Rattle.flutejoin_c.specs.Names.{wide}
use Rattle.flutejoin_c.specs.declared.packet.InstanceFields.{InstanceFields}
use Rattle.flutejoin_c.specs.declared.packet.InfoFields.{InfoFields}
use Rattle.flutejoin_c.specs.declared.packet.SymbolFields.{SymbolFields}
use Rattle.flutejoin_c.specs.declared.packet.PacketFields.{PacketFields}

-- the FDT Instance ID in fields, if it is there
abbrev pub instance_in : InstanceFields → Option ℕ
instance_in f = if f.present == 0 then None else Some f.id

-- the transmission information in fields, if it is there
abbrev pub info_in : InfoFields → Option Information
info_in f = if f.present == 0 then None else Some (information f.length f.symbol f.block)

-- the symbol's bytes are so many of the datagram, from this place
abbrev pub symbol_in : List ℕ → SymbolFields → Option (SymbolId × List ℕ)
symbol_in datagram f =
    if f.present == 0 then None
    else Some (record { sbn = f.sbn; esi = f.esi }, take f.length (drop f.start datagram))

-- the content that is told
abbrev pub content_in : List ℕ → PacketFields → Content
content_in datagram f = record {
  tsi = f.tsi;
  toi = wide f.toi;
  instance = instance_in f.instance;
  info = info_in f.info;
  symbol = symbol_in datagram f.symbol;
}

-- the datagram is a packet, and this is its content
abbrev pub Contains : List ℕ → PacketFields → Type 0
Contains datagram f = Spells datagram (content_in datagram f)

-- the datagram is refused, for the first reason that applies
abbrev pub IsRefusal : List ℕ → CommandFault → Type 0
IsRefusal datagram (Refused refusal) = Refuses datagram refusal
IsRefusal datagram fault = ⊥
