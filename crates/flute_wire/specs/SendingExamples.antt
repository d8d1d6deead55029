-- Packets written and objects sent, computed.
use Rattle.std.specs.Prelude.{◌≡◌, ◌∷◌, [], ◌^◌, codes, map, Some, None, refl}
use Rattle.flute_parts.specs.Information.{information, sizes}
use Rattle.flute_parts.specs.Session.{session}
use Rattle.flute_parts.specs.Partition.{ids, symbol_id}
use Rattle.flute_parts.specs.declared.object_key.ObjectName.TheVariants.{Instance, File}
use Rattle.flute_parts.specs.declared.key.Key.{Key}
use Rattle.flute_wire.specs.declared.writing.WriteFault.TheVariants.{Tsi, Toi, EmptySymbol}
use Rattle.flute_wire.specs.declared.sending.CarouselFault.TheVariants.{Length, Write}
use Rattle.flute_wire.specs.Writing.{packet_at, spelling, write_fault}
use Rattle.flute_wire.specs.Carousel.{symbols_of, payloads_of, packets_of, carousel_fault}

-- file 1 of session 7, and FDT Instance 3
abbrev pub file : Key
file = record { session = session 0 7; object = File 1 }

abbrev pub instance : Key
instance = record { session = session 0 7; object = Instance 3 }

-- symbol 0 of block 0 of the file
pub sent_first_symbol : spelling (packet_at file None (Some (symbol_id 0 0, codes "hell")))
    ≡ 0x10 ∷ 0xA0 ∷ 0x04 ∷ 0x00 ∷ 0x00 ∷ 0x00 ∷ 0x00 ∷ 0x00 ∷ 0x00 ∷ 0x00 ∷ 0x00 ∷ 0x07
    ∷ 0x00 ∷ 0x00 ∷ 0x00 ∷ 0x01 ∷ 0x00 ∷ 0x00 ∷ 0x00 ∷ 0x00 ∷ 0x68 ∷ 0x65 ∷ 0x6C ∷ 0x6C ∷ []
sent_first_symbol = refl

-- the FDT Instance, with EXT_FDT
pub sent_instance : spelling (packet_at instance None (Some (symbol_id 0 0, codes "<")))
    ≡ 0x10 ∷ 0xA0 ∷ 0x05 ∷ 0x00 ∷ 0x00 ∷ 0x00 ∷ 0x00 ∷ 0x00 ∷ 0x00 ∷ 0x00 ∷ 0x00 ∷ 0x07
    ∷ 0x00 ∷ 0x00 ∷ 0x00 ∷ 0x00 ∷ 0xC0 ∷ 0x20 ∷ 0x00 ∷ 0x03 ∷ 0x00 ∷ 0x00 ∷ 0x00 ∷ 0x00
    ∷ 0x3C ∷ []
sent_instance = refl

-- the file `hello`, of 5 bytes in symbols of 4: two datagrams with EXT_FTI, the second short
pub hello : map spelling (packets_of file (information 5 4 2) (codes "hello"))
    ≡ (0x10 ∷ 0xA0 ∷ 0x08 ∷ 0x00 ∷ 0x00 ∷ 0x00 ∷ 0x00 ∷ 0x00 ∷ 0x00 ∷ 0x00 ∷ 0x00 ∷ 0x07
    ∷ 0x00 ∷ 0x00 ∷ 0x00 ∷ 0x01 ∷ 0x40 ∷ 0x04 ∷ 0x00 ∷ 0x00 ∷ 0x00 ∷ 0x00 ∷ 0x00 ∷ 0x05
    ∷ 0x00 ∷ 0x00 ∷ 0x00 ∷ 0x04 ∷ 0x00 ∷ 0x00 ∷ 0x00 ∷ 0x02 ∷ 0x00 ∷ 0x00 ∷ 0x00 ∷ 0x00
    ∷ 0x68 ∷ 0x65 ∷ 0x6C ∷ 0x6C ∷ [])
    ∷ (0x10 ∷ 0xA0 ∷ 0x08 ∷ 0x00 ∷ 0x00 ∷ 0x00 ∷ 0x00 ∷ 0x00 ∷ 0x00 ∷ 0x00 ∷ 0x00 ∷ 0x07
    ∷ 0x00 ∷ 0x00 ∷ 0x00 ∷ 0x01 ∷ 0x40 ∷ 0x04 ∷ 0x00 ∷ 0x00 ∷ 0x00 ∷ 0x00 ∷ 0x00 ∷ 0x05
    ∷ 0x00 ∷ 0x00 ∷ 0x00 ∷ 0x04 ∷ 0x00 ∷ 0x00 ∷ 0x00 ∷ 0x02 ∷ 0x00 ∷ 0x00 ∷ 0x00 ∷ 0x01
    ∷ 0x6F ∷ [])
    ∷ []
unfolding packets_of payloads_of symbols_of ids sizes
hello = refl

-- a file of no bytes: one datagram that ends with its header
pub no_bytes : map spelling (packets_of file (information 0 0 0) [])
    ≡ (0x10 ∷ 0xA0 ∷ 0x08 ∷ 0x00 ∷ 0x00 ∷ 0x00 ∷ 0x00 ∷ 0x00 ∷ 0x00 ∷ 0x00 ∷ 0x00 ∷ 0x07
    ∷ 0x00 ∷ 0x00 ∷ 0x00 ∷ 0x01 ∷ 0x40 ∷ 0x04 ∷ 0x00 ∷ 0x00 ∷ 0x00 ∷ 0x00 ∷ 0x00 ∷ 0x00
    ∷ 0x00 ∷ 0x00 ∷ 0x00 ∷ 0x00 ∷ 0x00 ∷ 0x00 ∷ 0x00 ∷ 0x00 ∷ [])
    ∷ []
unfolding packets_of payloads_of symbols_of ids sizes
no_bytes = refl

-- ten bytes in three blocks of one symbol
pub three_blocks : symbols_of (information 10 4 1) (codes "abcdefghij")
    ≡ (symbol_id 0 0, codes "abcd") ∷ (symbol_id 1 0, codes "efgh") ∷ (symbol_id 2 0, codes "ij")
    ∷ []
unfolding symbols_of ids sizes
three_blocks = refl

-- a session, a file and a symbol that are not written
pub wide_session :
    write_fault
    (packet_at (record { session = session 0 (2 ^ 32); object = File (2 ^ 32) }) None None)
    ≡ Some Tsi
wide_session = refl

pub wide_file :
    write_fault (packet_at (record { session = session 0 7; object = File (2 ^ 32) }) None
    (Some (symbol_id 0 0, [])))
    ≡ Some Toi
wide_file = refl

pub empty_symbol : write_fault (packet_at file None (Some (symbol_id 0 0, []))) ≡ Some EmptySymbol
empty_symbol = refl

pub some_symbol : write_fault (packet_at file None (Some (symbol_id 0 0, codes "hell"))) ≡ None
some_symbol = refl

-- a content that is too short for its information, one of a wide session, and one that is sent
pub short_content : carousel_fault file (information 5 4 2) (codes "hell") ≡ Some Length
unfolding carousel_fault packets_of payloads_of symbols_of ids sizes
short_content = refl

pub wide_content :
    carousel_fault (record { session = session 0 (2 ^ 32); object = File 1 }) (information 5 4 2)
    (codes "hello")
    ≡ Some (Write Tsi)
unfolding carousel_fault packets_of payloads_of symbols_of ids sizes
wide_content = refl

pub whole_content : carousel_fault file (information 5 4 2) (codes "hello") ≡ None
unfolding carousel_fault packets_of payloads_of symbols_of ids sizes
whole_content = refl
