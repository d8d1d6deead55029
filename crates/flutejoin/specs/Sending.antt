-- How far an object is sent whose content is read.
use Rattle.std.specs.Prelude.{◌≡◌, ◌≢◌, ◌<◌, ℕ, ◌+◌, ◌==◌, Bool, true, false, if◌then◌else◌}
use Rattle.std.specs.Prelude.{List, [], ◌∷◌, ◌++◌, length, flat_map, slice_get, Option, Some}
use Rattle.std.specs.Prelude.{None, Result, Ok, Err, MatchBool, MatchResult, IfSome, ⊤, ◌⊎◌}
use Rattle.std.specs.List.{AllZip}
use Rattle.std.specs.Option.{option_map}
use Rattle.std.specs.Io.KnownBytes.{Appends, Consumes}
use Rattle.flute_parts.specs.Devices.{AppendsPart}
use Rattle.flute_parts.specs.Information.{Information}
use Rattle.flute_parts.specs.Partition.{ids}
use Rattle.flute_parts.specs.declared.key.Key.{Key}
use Rattle.flute_parts.specs.declared.symbol_id.SymbolId.{SymbolId}
use Rattle.flute_wire.specs.Carousel.{first_object_fault}
use Rattle.flute_wire.specs.Content.{Content}
use Rattle.flute_wire.specs.Writing.{IsWritten, packet_at, write_fault}
use Rattle.flute_journal.specs.Records.{file_header, record_of}
use Rattle.flute_journal.specs.declared.fault.ReadFault.TheVariants.{Read}
use Rattle.flutejoin.specs.Carousel.{WritesFile}
use Rattle.flutejoin.specs.declared.command_fault.CommandFault.{CommandFault}
use Rattle.flutejoin.specs.declared.command_fault.CommandFault.TheVariants.{CannotSend, CannotWrite}
use Rattle.flutejoin.specs.declared.command_fault.CommandFault.TheVariants.{Input, OutOfMemory}

-- of those bytes of an input that were left some were read
pub record ReadsOf (old new : Option (List ℕ)) (before left : ℕ) : Type 0 where
  pub bytes : List ℕ
  pub read : Consumes old new bytes
  pub counted : length bytes + left ≡ before

-- P, unless the input cannot be read
abbrev pub UnlessRead : {T : Type 0} → Result T CommandFault → Type 0 → Type 0
UnlessRead (Err (Input number fault)) P = ⊤
UnlessRead _ P = P

-- P of what the input has, if that is so many bytes
abbrev pub OfSize : Option (List ℕ) → ℕ → (List ℕ → Type 0) → Type 0
OfSize input size P =
    (content : List ℕ) → input ≡ Some content → length content ≡ size → P content

-- the input cannot be read, or has not as many bytes as it was said to have
abbrev pub IsReadFault : CommandFault → Type 0
IsReadFault fault = fault ≡ Input 1 Read

-- why the packet is not written
abbrev pub IsPacketFault : Content → CommandFault → Type 0
IsPacketFault c (CannotSend fault) = write_fault c ≡ Some fault
IsPacketFault c OutOfMemory = write_fault c ≡ None
IsPacketFault c _ = ⊥

-- what comes of a packet: a datagram that spells it, or why it has none
abbrev pub Makes : Content → Result (List ℕ) CommandFault → Type 0
Makes c result = MatchResult result (λ d. IsWritten d c × (write_fault c ≡ None))
    (λ fault. IsReadFault fault ⊎ IsPacketFault c fault)

-- the symbol at a place, if there is one, with these bytes
abbrev pub symbol_with : Information → ℕ → List ℕ → Option (SymbolId × List ℕ)
symbol_with i place bytes = option_map (λ id. (id, bytes)) (slice_get (ids i) place)

-- the packet at a place
abbrev pub packet_with : Key → Information → ℕ → List ℕ → Content
packet_with key i place bytes = packet_at key (Some i) (symbol_with i place bytes)

-- why a packet has no datagram
abbrev pub IsNextFault : CommandFault → Type 0
IsNextFault (CannotSend fault) = ⊤
IsNextFault (Input number fault) = Input number fault ≡ Input 1 Read
IsNextFault OutOfMemory = ⊤
IsNextFault _ = ⊥

-- why the packets of an object are not sent
abbrev pub IsSendingFault : CommandFault → Type 0
IsSendingFault fault = IsNextFault fault ⊎ (fault ≡ CannotWrite)

-- P of the datagrams of these packets
abbrev pub OfPackets : List Content → (List (List ℕ) → Type 0) → Type 0
OfPackets packets P = (datagrams : List (List ℕ)) × AllZip IsWritten datagrams packets
    × P datagrams

-- what comes of the packets of an object: their file, or the first that is not written; or all
-- could be, but not to the sink, or there was no memory
abbrev pub SendsPackets : List Content → Option (List ℕ) → Option (List ℕ)
    → Result ℕ CommandFault → Type 0
SendsPackets packets old new (Ok n) = OfPackets packets (λ d. WritesFile d n old new)
SendsPackets packets old new (Err (CannotSend fault)) = first_object_fault packets ≡ Some fault
SendsPackets packets old new (Err CannotWrite) =
    OfPackets packets (λ d. AppendsPart old new (file_header ++ flat_map record_of d))
SendsPackets packets old new (Err OutOfMemory) = first_object_fault packets ≡ None
SendsPackets packets old new (Err _) = ⊤

-- the bytes were appended, or of a sink that failed a part of them
abbrev pub Grows : Bool → Option (List ℕ) → Option (List ℕ) → List ℕ → Type 0
Grows failed old new bytes = MatchBool failed (AppendsPart old new bytes) (Appends old new bytes)

-- the bytes were appended now; or the sink had failed before, and was not called
abbrev pub GrowsOn : Bool → Bool → Option (List ℕ) → Option (List ℕ) → List ℕ
    → Type 0
GrowsOn true failed old new bytes = (failed ≡ true) × (new ≡ old)
GrowsOn false failed old new bytes = Grows failed old new bytes

-- the record of the datagram at a place, and before the first the header
abbrev pub record_at : ℕ → List ℕ → List ℕ
record_at place d = if place == 0 then file_header ++ record_of d else record_of d

-- the file up to these datagrams
abbrev pub file_up_to : List (List ℕ) → List ℕ
file_up_to [] = []
file_up_to (d ∷ ds) = file_header ++ flat_map record_of (d ∷ ds)

-- there are so many bytes, if they are known
abbrev pub HasLeft : Option (List ℕ) → ℕ → Type 0
HasLeft known n = IfSome known (λ bytes. length bytes ≡ n)

-- the result after sending: that the input cannot be read; or the result of sending, and then so
-- many bytes were left, unless that is such a fault itself
abbrev pub Ends : {T : Type 0} → Option (List ℕ) → ℕ → Result T CommandFault
    → Result T CommandFault → Type 0
Ends known left sent result =
    (result ≡ Err (Input 1 Read))
    ⊎ ((result ≡ sent) × UnlessRead sent (HasLeft known left))

-- there are fewer or more bytes, if they are known
abbrev pub HasNot : Option (List ℕ) → ℕ → Type 0
HasNot known n = IfSome known (λ bytes. length bytes ≢ n)

-- How often a source failed that should have so many bytes: if the result says that the input
-- cannot be read, once, or never and it has more or fewer; else never.
abbrev pub ReadFailures : {T : Type 0} → ℕ → ℕ → Option (List ℕ) → ℕ
    → Result T CommandFault → Type 0
ReadFailures old new known n (Err (Input number fault)) =
    (new ≡ old + 1) ⊎ ((new ≡ old) × HasNot known n)
ReadFailures old new known n _ = new ≡ old

-- the same of so many bytes that more may follow
abbrev pub ReadsEnough : {T : Type 0} → ℕ → ℕ → Option (List ℕ) → ℕ
    → Result T CommandFault → Type 0
ReadsEnough old new known n result = MatchResult result (λ _. new ≡ old)
    (λ _. (new ≡ old + 1) ⊎ ((new ≡ old) × IfSome known (λ bytes. length bytes < n)))

-- the same of the result once it was read to its end, unless it had failed before
abbrev pub EndsReading : {T : Type 0} → ℕ → ℕ → Option (List ℕ) → ℕ
    → Result T CommandFault → Result T CommandFault → Type 0
EndsReading old new known left (Err (Input number fault)) result = new ≡ old
EndsReading old new known left _ result = ReadFailures old new known left result

-- whether so many bytes were left
abbrev pub TellsLeft : ℕ → ℕ → Option (List ℕ) → ℕ → Bool → Type 0
TellsLeft old new known left true = (new ≡ old) × HasLeft known left
TellsLeft old new known left false = (new ≡ old + 1) ⊎ ((new ≡ old) × HasNot known left)
