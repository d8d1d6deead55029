-- The first of several streams that has a fault.
use Rattle.std.specs.Prelude.{◌≡◌, ℕ, zero, suc, List, [], ◌∷◌, Some, slice_get}
use Rattle.flute_parts.specs.declared.fact.Fact.{Fact}
use Rattle.flute_journal.specs.declared.fault.LoadFault.{LoadFault}
use Rattle.flute_streams.specs.declared.merge.streams_fault.InputFault.{InputFault}
use Rattle.flute_streams.specs.Streams.{Behaviour}

module _ {S : Type 0} (b : Behaviour S) where
  -- the stream with this number, which was this one when it was new, stopped at the fault
  pub record IsStopOf (start : S) (number : ℕ) (now : List S) (fault : LoadFault) : Type 0 where
    pub stream : S
    pub is : slice_get now number ≡ Some stream
    pub stops : b.stops start fault
    pub fails : b.fails start stream (Some fault)

  -- one of the streams stopped at the fault
  pub record HasStopped (start now : List S) (fault : InputFault) : Type 0 where
    pub new : S
    pub was : slice_get start fault.number ≡ Some new
    pub stop : IsStopOf new fault.number now fault.fault

  -- each before this number contains some facts, and ends
  abbrev pub TellBefore : ℕ → List S → Type 0
  TellBefore zero start = Unit {0}
  TellBefore (suc number) (s ∷ start) = ((F : List Fact) × b.tells s F) × TellBefore number start
  TellBefore (suc number) [] = ⊥

  -- the fault is that of the first stream that has one
  pub record FirstFault (start now : List S) (fault : InputFault) : Type 0 where
    pub stopped : HasStopped start now fault
    pub before : TellBefore fault.number start
