-- What the inputs of several stations contain together.
use Rattle.std.specs.Prelude.{ℕ, List, [], ◌∷◌, Option, Some, None, Bool, true, false, not}
use Rattle.std.specs.List.{flat_map, count_by}
use Rattle.std.specs.BTreeSet.{BTreeSet}
use Rattle.flute_parts.specs.declared.fact.Fact.{Fact}
use Rattle.flute_parts.specs.declared.key.Key.{Key}
use Rattle.flute_wire.specs.Content.{Content}
use Rattle.flute_wire.specs.Facts.{key_of}
use Rattle.flute_wire.specs.Reading.{packet, facts}
use Rattle.flute_journal.specs.Journal.{IsJournalWithin}
use Rattle.flute_streams.specs.Objects.{listed, takes_without}
use Rattle.flute_streams.specs.Scopes.{chosen, others_in}
use Rattle.flute_streams.specs.declared.choice.objects.Objects.{Objects}
use Rattle.flute_streams.specs.declared.choice.scope.Scope.{Scope}
use Rattle.flute_journal.specs.Records.{IsFileWithin}
use Rattle.flutejoin.specs.Limits.{Limits, limits_of}
use Rattle.flutejoin.specs.declared.limits.TheConstants.{MAX_ENTRIES}

-- what an input contains: the facts of a journal, or the datagrams of a file
pub data InputContent : Type 0 where
  of_journal : (entries : List Fact) → InputContent
  of_file : (datagrams : List (List ℕ)) → InputContent

-- what of the inputs is joined: the sender that datagrams have, which objects are taken, and how
-- much there may be of them
pub record Choice : Type 0 where
  pub most : Limits
  pub sender : ℕ
  pub takes : Key → Bool

-- the choice of this sender and of the objects of a scope that are not listed, within limits
abbrev pub choice_without : Limits → ℕ → Scope → Option (BTreeSet Key) → Choice
choice_without most sender scope without =
    record { most = most; sender = sender; takes = takes_without without scope }

-- the choice of this sender and of these objects, within limits
abbrev pub choice_of : Limits → ℕ → Objects → Choice
choice_of most sender objects = choice_without most sender objects.scope (listed objects)

-- all objects, within the limits of a store
abbrev pub everything : ℕ → Choice
everything sender =
    record { most = limits_of false; sender = sender; takes = λ _. true }

-- the facts of a datagram that are joined
abbrev pub facts_by : Choice → List ℕ → List Fact
facts_by choice datagram = chosen choice.takes (facts choice.sender datagram)

-- the facts of an input that are joined
abbrev pub content_facts : Choice → InputContent → List Fact
content_facts choice (of_journal entries) = chosen choice.takes entries
content_facts choice (of_file datagrams) = flat_map (facts_by choice) datagrams

-- the datagrams of an input; none of a journal
abbrev pub content_datagrams : InputContent → List (List ℕ)
content_datagrams (of_journal entries) = []
content_datagrams (of_file datagrams) = datagrams

-- a packet has this content, and is of an object that is not taken
abbrev pub is_other_packet : Choice → Option Content → Bool
is_other_packet choice None = false
is_other_packet choice (Some content) = not (choice.takes (key_of choice.sender content))

-- the datagram is such a packet; a refused one is not
abbrev pub is_of_others : Choice → List ℕ → Bool
is_of_others choice datagram = is_other_packet choice (packet datagram)

-- how much of an input is of objects that are not taken: entries of a journal, packets of a file
abbrev pub content_others : Choice → InputContent → ℕ
content_others choice (of_journal entries) = others_in choice.takes entries
content_others choice (of_file datagrams) = count_by (is_of_others choice) datagrams

-- the input is the journal of these facts, or the file of these datagrams
abbrev pub Tells : List ℕ → InputContent → Type 0
Tells bytes (of_journal entries) = IsJournalWithin MAX_ENTRIES bytes entries
Tells bytes (of_file datagrams) = IsFileWithin MAX_ENTRIES bytes datagrams

-- each input contains what the other list has at its place
unfoldable pub TellAll : List (List ℕ) → List InputContent → Type 0
TellAll [] [] = Unit {0}
TellAll (bytes ∷ inputs) (one ∷ told) = Tells bytes one × TellAll inputs told
TellAll _ _ = ⊥
