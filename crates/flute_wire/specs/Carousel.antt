-- The datagrams that carry an object.
use Rattle.std.specs.Prelude.{ℕ, ◌*◌, ◌==◌, if◌then◌else◌, List, [], ◌∷◌}
use Rattle.std.specs.Prelude.{length, map, flat_map, take, drop, Option, Some, None}
use Rattle.std.specs.List.{enumerate_from}
use Rattle.std.specs.Option.{option_map, option_or}
use Rattle.flute_parts.specs.Information.{Information}
use Rattle.flute_parts.specs.Partition.{ids}
use Rattle.flute_parts.specs.declared.symbol_id.SymbolId.{SymbolId}
use Rattle.flute_parts.specs.declared.key.Key.{Key}
use Rattle.flute_parts.specs.declared.fact.Fact.{Fact}
use Rattle.flute_wire.specs.Content.{Content}
use Rattle.flute_wire.specs.Writing.{packet_at, outgoing_facts, write_fault}
use Rattle.flute_wire.specs.declared.writing.WriteFault.{WriteFault}
use Rattle.flute_wire.specs.declared.sending.CarouselFault.{CarouselFault}
use Rattle.flute_wire.specs.declared.sending.CarouselFault.TheVariants.{Length, Write}

-- the bytes of an object at a place of its partition: as many as a symbol has, and at the last
-- place what is left (RFC 5445, 3.4)
abbrev pub piece : Information → List ℕ → ℕ → List ℕ
piece i content place = take i.symbol_length (drop (place * i.symbol_length) content)

-- a symbol with its place, as the symbol with its bytes
abbrev pub with_piece : Information → List ℕ → ℕ × SymbolId → SymbolId × List ℕ
with_piece i content s = (s.1, piece i content s.0)

-- the symbols of an object in the order of its partition, each with its bytes
unfoldable pub symbols_of : Information → List ℕ → List (SymbolId × List ℕ)
symbols_of i content = map (with_piece i content) (enumerate_from 0 (ids i))

-- what is sent with the transmission information: each symbol in turn, or none once, if the object
-- has none
unfoldable pub payloads_of : Information → List ℕ → List (Option (SymbolId × List ℕ))
payloads_of i content =
    if i.transfer_length == 0 then None ∷ [] else map (λ s. Some s) (symbols_of i content)

-- the packets that carry an object
unfoldable pub packets_of : Key → Information → List ℕ → List Content
packets_of key i content = map (packet_at key (Some i)) (payloads_of i content)

-- why the first packet that is not written isn't
abbrev pub first_object_fault : List Content → Option WriteFault
first_object_fault [] = None
first_object_fault (c ∷ cs) = option_or (write_fault c) (first_object_fault cs)

-- why an object is not sent, the first that applies
unfoldable pub carousel_fault : Key → Information → List ℕ → Option CarouselFault
carousel_fault key i content =
    if length content == i.transfer_length
    then option_map (λ fault. Write fault) (first_object_fault (packets_of key i content))
    else Some Length

-- the facts in the datagrams of an object: its transmission information, with each symbol in turn,
-- or once alone
unfoldable pub facts_sent : Key → Information → List ℕ → List Fact
facts_sent key i content = flat_map (outgoing_facts key (Some i)) (payloads_of i content)
