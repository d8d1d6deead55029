-- What is written of a journal to which a list of information is added.
use Rattle.std.specs.Prelude.{◌≡◌, ℕ, ◌≤◌, ◌^◌, List, Option, IfSome}
use Rattle.flute_parts.specs.Facts.{Same}
use Rattle.flute_parts.specs.declared.fact.Fact.{Fact}
use Rattle.flute_streams.specs.Streams.{Behaviour, IsNew}
use Rattle.flute_journal.specs.declared.fault.LoadFault.{LoadFault}
use Rattle.flute_journal.specs.declared.fault.ReadFault.TheVariants.{Read}
use Rattle.flutejoin.specs.Info.{AddsFacts, InfoFails}
use Rattle.flutejoin.specs.InformationLines.{LineTells, ListFails}
use Rattle.flutejoin.specs.ListedLines.{ListTells}
use Rattle.flutejoin.specs.Limits.{Limits}
use Rattle.flutejoin.specs.declared.command_fault.CommandFault.{CommandFault}
use Rattle.flutejoin.specs.declared.command_fault.CommandFault.TheVariants.{Input}

-- the list contains some facts, and the journal of the input's entries and of these was written,
-- which has so many entries
abbrev pub AddsList : Option (List ℕ) → Option (List ℕ) → ℕ → Option (List ℕ)
    → Option (List ℕ) → Type 0
AddsList input list count old new =
    IfSome list (λ text. (facts : List Fact) × ListTells LineTells text facts
    × AddsFacts input facts old new count)

-- why it was not: the list's fault, or its source failed; or the list contains some facts, and they
-- were not added to the input
pub data AddListFails (most : Limits) (input list : Option (List ℕ))
    (fault : CommandFault) : Type 0 where
  of_list : IfSome list (λ text. ListFails most text fault) → AddListFails most input list fault
  of_source : fault ≡ Input 2 Read → AddListFails most input list fault
  of_facts : IfSome list (λ text. (facts : List Fact) × ListTells LineTells text facts
      × InfoFails most input facts fault) → AddListFails most input list fault

-- Streams of facts in memory.

module _ {S : Type 0} (b : Behaviour S) where
  -- nothing was read of the stream, which does not stop
  pub record IsInMemory (s : S) : Type 0 where
    pub new : IsNew b s
    pub few : b.most s ≤ 2 ^ 63
    pub goes_on : (fault : LoadFault) → b.stops s fault → ⊥

  -- the facts it contains have the same values as these
  abbrev pub TellsSame : S → List Fact → Type 0
  TellsSame s facts = (told : List Fact) → b.tells s told → Same told facts
