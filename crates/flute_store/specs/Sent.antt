-- The datagrams by which an object was sent make it whole.
use Rattle.std.specs.Prelude.{◌≡◌, ℕ, List, length, filter, flat_map}
use Rattle.std.specs.List.{AllZip}
use Rattle.flute_parts.specs.Information.{Information, IsValid}
use Rattle.flute_parts.specs.Order.{same_key}
use Rattle.flute_parts.specs.Addresses.{address}
use Rattle.flute_parts.specs.Facts.{SameMembers}
use Rattle.flute_parts.specs.declared.key.Key.{Key}
use Rattle.flute_parts.specs.declared.fact.Fact.{Fact}
use Rattle.flute_wire.specs.Reading.{facts}
use Rattle.flute_wire.specs.Writing.{IsWritten}
use Rattle.flute_wire.specs.Carousel.{packets_of}
use Rattle.flute_store.specs.Objects.{Whole, object}

-- the facts of one object
abbrev pub facts_at_key : Key → List Fact → List Fact
facts_at_key key F = filter (λ f. same_key (address f).key key) F

-- if an object's facts are those of its datagrams from its sender, in any order and with any
-- repeats, it is whole, and its bytes are those that were sent
abbrev pub DatagramsGiveTheObject : Type 0
DatagramsGiveTheObject =
    (F : List Fact) (key : Key) (info : Information) (content : List ℕ) (datagrams : List (List ℕ))
    → IsValid info → length content ≡ info.transfer_length
    → AllZip IsWritten datagrams (packets_of key info content)
    → SameMembers (facts_at_key key F) (flat_map (facts key.session.sender) datagrams)
    → Whole F key info × (object F key info ≡ content)
