-- What the command `carousel` makes of an object.
use Rattle.std.specs.Prelude.{◌≡◌, ℕ, List, ◌++◌, length, flat_map, Option, Some, None, IfSome, ⊤}
use Rattle.std.specs.Io.KnownBytes.{Appends}
use Rattle.std.specs.List.{AllZip}
use Rattle.flute_parts.specs.Information.{Information, information, info_fault}
use Rattle.flute_parts.specs.declared.key.Key.{Key}
use Rattle.flute_wire.specs.Carousel.{packets_of, facts_sent, carousel_fault}
use Rattle.flute_wire.specs.Reading.{facts}
use Rattle.flute_wire.specs.Writing.{IsWritten}
use Rattle.flute_wire.specs.declared.sending.CarouselFault.TheVariants.{Write}
use Rattle.flute_journal.specs.Records.{file_header, record_of, IsFileOf}
use Rattle.flute_journal.specs.declared.fault.ReadFault.TheVariants.{Read}
use Rattle.flutejoin.specs.declared.command_fault.CommandFault.{CommandFault}
use Rattle.flutejoin.specs.declared.command_fault.CommandFault.TheVariants.{BadInformation}
use Rattle.flutejoin.specs.declared.command_fault.CommandFault.TheVariants.{CannotSend}
use Rattle.flutejoin.specs.declared.command_fault.CommandFault.TheVariants.{CannotWrite, Input}
use Rattle.flutejoin.specs.declared.command_fault.CommandFault.TheVariants.{OutOfMemory}

-- the information of this content
abbrev pub info_of : ℕ → ℕ → List ℕ → Information
info_of symbol block content = information (length content) symbol block

-- the datagrams are those of the object: its packets in turn, which contain its information
-- and its symbols
pub record SendsObject (key : Key) (symbol block : ℕ) (content : List ℕ)
    (datagrams : List (List ℕ)) : Type 0 where
  pub valid : info_fault (info_of symbol block content) ≡ None
  pub written : AllZip IsWritten datagrams (packets_of key (info_of symbol block content) content)
  pub told : flat_map (facts key.session.sender) datagrams
      ≡ facts_sent key (info_of symbol block content) content

-- the file of so many datagrams was written
pub record WritesFile (datagrams : List (List ℕ)) (n : ℕ) (old new : Option (List ℕ)) : Type 0
  where
    pub appended : Appends old new (file_header ++ flat_map record_of datagrams)
    pub file : IsFileOf (file_header ++ flat_map record_of datagrams) datagrams
    pub count : n ≡ length datagrams

-- P holds of the datagrams of an object of this content
abbrev pub OfDatagrams : Key → ℕ → ℕ → List ℕ → (List (List ℕ) → Type 0)
    → Type 0
OfDatagrams key symbol block content P =
    (datagrams : List (List ℕ)) × SendsObject key symbol block content datagrams × P datagrams

module _ (input : Option (List ℕ)) (key : Key) (symbol block : ℕ) where
  -- P holds of the datagrams of the object whose content is what the input has
  abbrev pub OfInput : (List (List ℕ) → Type 0) → Type 0
  OfInput P = IfSome input (λ content. OfDatagrams key symbol block content P)

  -- the file of its datagrams was written, so many
  abbrev pub SendsInput : ℕ → Option (List ℕ) → Option (List ℕ) → Type 0
  SendsInput n old new = OfInput (λ d. WritesFile d n old new)

  -- Why it is not: the numbers are no information, or the first packet that is not written has this
  -- fault; or all could be sent, and the sink failed. The input may fail. Memory is asked for where
  -- neither of the first two is.
  abbrev pub SendFails : CommandFault → Type 0
  SendFails (BadInformation fault) =
      IfSome input (λ content. info_fault (info_of symbol block content) ≡ Some fault)
  SendFails (CannotSend fault) = IfSome input
      (λ content. carousel_fault key (info_of symbol block content) content ≡ Some (Write fault))
  SendFails (Input number fault) = (number ≡ 1) × (fault ≡ Read)
  SendFails CannotWrite = OfInput (λ d. ⊤)
  SendFails OutOfMemory = IfSome input
      (λ content. (info_fault (info_of symbol block content) ≡ None)
      × (carousel_fault key (info_of symbol block content) content ≡ None))
  SendFails _ = ⊥
