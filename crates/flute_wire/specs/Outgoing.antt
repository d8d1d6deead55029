-- What a caller asks to be written.
use Rattle.std.specs.Option.{option_map}
use Rattle.flute_wire.specs.declared.writing.Outgoing.{Outgoing}
use Rattle.flute_wire.specs.Content.{Content}
use Rattle.flute_wire.specs.Writing.{packet_at}

-- the packet of its key, transmission information and symbol, without where they lie in memory
abbrev pub said : Outgoing → Content
said o = packet_at o.key o.info (option_map (λ s. (s.0, s.1.now)) o.symbol)
