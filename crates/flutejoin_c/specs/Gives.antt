-- What a call leaves in the room that its caller gave, and how it tells of a fault.
use Rattle.std.specs.Prelude.{◌≡◌, ℕ, List, [], ◌++◌, length, take, drop, Option, Some}
use Rattle.flutejoin.specs.declared.command_fault.CommandFault.{CommandFault}
use Rattle.flutejoin_c.specs.Codes.{code_of, number_of}

-- the room, once these were put there: as many as fit, and after them what was there before
abbrev pub filled : {T : Type 0} → List T → List T → List T
filled items room = take (length room) items ++ drop (length items) room

-- bytes were written, as many of them are in the room as fit, and so many there are
pub record Gives (writes : Option (List ℕ) → Option (List ℕ) → Type 0) (old new : List ℕ)
    (needed : ℕ) : Type 0 where
  pub bytes : List ℕ
  pub written : writes (Some []) (Some bytes)
  pub given : new ≡ filled bytes old
  pub counted : needed ≡ length bytes

-- the numbers are those of one of these faults
pub record TellsFault (fails : CommandFault → Type 0) (code number : ℕ) : Type 0 where
  pub fault : CommandFault
  pub why : fails fault
  pub code_is : code ≡ code_of fault
  pub number_is : number ≡ number_of fault
