-- What the command `packet` returns and writes.
use Rattle.std.specs.Prelude.{◌≡◌, ℕ, ◌%◌, List, length, Option, Result, Ok, Err}
use Rattle.std.specs.Io.KnownBytes.{Keeps}
use Rattle.hex.specs.Hex.{decode_of}
use Rattle.flute_parts.specs.Devices.{AppendsPart}
use Rattle.flute_wire.specs.Content.{Content}
use Rattle.flute_wire.specs.Datagram.{Spells}
use Rattle.flute_wire.specs.Refusals.{Refuses}
use Rattle.flutejoin.specs.Json.{json_packet_lines}
use Rattle.flutejoin.specs.Lines.{packet_lines}
use Rattle.flutejoin.specs.declared.lines.form.Form.{Form}
use Rattle.flutejoin.specs.declared.lines.form.Form.TheVariants.{Plain, Json}
use Rattle.flutejoin.specs.declared.command_fault.CommandFault.{CommandFault}
use Rattle.flutejoin.specs.declared.command_fault.CommandFault.TheVariants.{BadHex, Refused}
use Rattle.flutejoin.specs.declared.command_fault.CommandFault.TheVariants.{OutOfMemory}
use Rattle.flutejoin.specs.declared.command_fault.CommandFault.TheVariants.{CannotWrite}

-- the text is these bytes in hexadecimal
abbrev pub IsHexOf : List ℕ → List ℕ → Type 0
IsHexOf text bytes = decode_of text ≡ Ok bytes

-- the lines of a packet, in a form
abbrev pub packet_lines_in : Form → Content → List ℕ
packet_lines_in Plain c = packet_lines c
packet_lines_in Json c = json_packet_lines c

-- the text is a datagram in hexadecimal that spells a packet, and of that packet's lines P holds
pub record HasLines (text : List ℕ) (form : Form) (P : List ℕ → Type 0) : Type 0 where
  pub datagram : List ℕ
  pub content : Content
  pub hex : IsHexOf text datagram
  pub spelled : Spells datagram content
  pub written : P (packet_lines_in form content)

-- the text is a datagram in hexadecimal that is refused
pub record HasRefusal (text : List ℕ) (P : List ℕ → Type 0) : Type 0 where
  pub datagram : List ℕ
  pub hex : IsHexOf text datagram
  pub refused : P datagram

-- why it failed, and what was written: nothing, or after a failed write a prefix of the lines;
-- memory is asked for the bytes of an even number of digits
abbrev pub FailsWith : List ℕ → Form → Option (List ℕ) → Option (List ℕ) → CommandFault
    → Type 0
FailsWith text form old new BadHex = ((bytes : List ℕ) → ¬ IsHexOf text bytes) × Keeps old new
FailsWith text form old new (Refused r) = HasRefusal text (λ d. Refuses d r) × Keeps old new
FailsWith text form old new OutOfMemory = (length text % 2 ≡ 0) × Keeps old new
FailsWith text form old new CannotWrite = HasLines text form (AppendsPart old new)
FailsWith text form old new _ = ⊥

-- a failed write is the one failure of a device that it returns
abbrev pub write_failures : {T : Type 0} → Result T CommandFault → ℕ
write_failures (Err CannotWrite) = 1
write_failures _ = 0
