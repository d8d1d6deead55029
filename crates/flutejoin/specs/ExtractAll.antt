-- What the command `extract --all` writes and returns.
use Rattle.std.specs.Prelude.{ℕ, Bool, true, ◌&&◌, ◌==◌, List, filter, Option, Some}
use Rattle.std.specs.Prelude.{None, IfSome}
use Rattle.std.specs.Io.KnownBytes.{IsAtEnd}
use Rattle.flute_parts.specs.Addresses.{address}
use Rattle.flute_parts.specs.declared.fact.Fact.{Fact}
use Rattle.flute_parts.specs.declared.key.Key.{Key}
use Rattle.flute_output.specs.NewFolders.{Places}
use Rattle.flute_journal.specs.Journal.{IsJournalWithin}
use Rattle.flute_streams.specs.Sessions.{listed_tsis, takes}
use Rattle.flutejoin.specs.Gaps.{GapsFail}
use Rattle.flutejoin.specs.ObjectFiles.{TakesAll}
use Rattle.flutejoin.specs.Limits.{Limits, IsOver}
use Rattle.flutejoin.specs.declared.extract.picked.Picked.{Picked}
use Rattle.flutejoin.specs.declared.limits.TheConstants.{MAX_ENTRIES}
use Rattle.flutejoin.specs.declared.command_fault.CommandFault.{CommandFault}

-- the sender is this one, or any
abbrev pub is_sender : Option ℕ → ℕ → Bool
is_sender None sender = true
is_sender (Some one) sender = sender == one

-- the object is of the sender and the sessions that are picked
abbrev pub is_picked : Picked → Key → Bool
is_picked p key =
    is_sender p.sender key.session.sender && takes (listed_tsis p.sessions) key.session.tsi

-- the fact is of such an object
abbrev pub picks_fact : Picked → Fact → Bool
picks_fact p fact = is_picked p (address fact).key

-- A journal within the limits was read. Of the objects of the facts that are picked, and of no
-- others, there is a file for each that is whole, and a line for each; so many files were written.
pub record ExtractsAll (most : Limits) (input left : Option (List ℕ)) (picks : Fact → Bool)
    (old new : Option Places) (lines_old lines_new : Option (List ℕ)) (count : ℕ) : Type 0 where
  pub entries : List Fact
  pub journal : IfSome input (λ bytes. IsJournalWithin MAX_ENTRIES bytes entries)
  pub read : IsAtEnd left
  pub within : ¬ IsOver most entries
  pub taken : TakesAll (filter picks entries) count old new lines_old lines_new

-- why it failed: as the lines of `gaps` are not written; the folder or the lines failed
abbrev pub ExtractAllFails : Limits → Option (List ℕ) → Option (List ℕ) → CommandFault
    → Type 0
ExtractAllFails = GapsFail
