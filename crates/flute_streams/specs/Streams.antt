-- Streams of facts in strictly rising order of their addresses: what they give, how they end,
-- and what is read for that.
use Rattle.std.specs.Prelude.{◌≡◌, ℕ, ◌+◌, ◌≤◌, List, [], ◌∷◌, ◌++◌, length, Option, Some, None}
use Rattle.std.specs.Prelude.{IfSome, Result, OnOk, IfErr, slice_get, slice_set}
use Rattle.flute_parts.specs.Facts.{IsRising}
use Rattle.flute_parts.specs.declared.fact.Fact.{Fact}
use Rattle.flute_store.specs.Walk.{IsSized}
pub use Rattle.flute_journal.specs.HeldEntries.{fact_in, address_of}
use Rattle.flute_journal.specs.HeldEntries.{IsSpelling}
use Rattle.flute_journal.specs.declared.fault.LoadFault.{LoadFault}

-- what is said of a kind of stream
pub record Behaviour (S : Type 0) : Type 1 where
  -- the fact that it holds
  pub held : S → Option Fact
  -- the bytes of its entry, if they lie in memory, or none
  pub spelled : S → List ℕ
  -- it holds at most so many facts from now on
  pub most : S → ℕ
  -- a new one may give these facts and end
  pub tells : S → List Fact → Type 0
  -- a new one is known to have these facts and no others, if nothing fails
  pub knows : S → List Fact → Type 0
  -- a new one may stop at this fault
  pub stops : S → LoadFault → Type 0
  -- since the first state, when it was new, it has given these facts, and no device failed
  pub passes : S → S → List Fact → Type 0
  -- since then these facts were read whole, and at most one more
  pub reads : S → S → List Fact → Type 0
  -- since then its device failed as often as this fault says
  pub fails : S → S → Option LoadFault → Type 0
  -- since then it gave these facts and ended
  pub ends : S → S → List Fact → Type 0

-- a fact, as a list of at most one
abbrev pub option_list : Option Fact → List Fact
option_list None = []
option_list (Some f) = f ∷ []

-- facts begin with those that were given, and with no others if nothing is held
pub record Continues (facts given : List Fact) (held : Option Fact) : Type 0 where
  pub rest : List Fact
  pub is : facts ≡ given ++ rest
  pub rising : IsRising facts
  pub ended : held ≡ None → rest ≡ []

module _ {S : Type 0} (b : Behaviour S) where
  -- what a stream has given, and what it holds
  pub record Gave (start now : S) (F : List Fact) : Type 0 where
    pub passes : b.passes start now F
    pub reads : b.reads start now F
    pub reads_held : b.reads start now (F ++ option_list (b.held now))
    pub fails : b.fails start now None
    pub rising : IsRising (F ++ option_list (b.held now))
    pub sized : IfSome (b.held now) IsSized
    pub spelled : IsSpelling (b.spelled now) (b.held now)
    pub ended : b.held now ≡ None → b.tells start F
    pub ends : b.held now ≡ None → b.ends start now F
    pub known : (K : List Fact) → b.knows start K
        → Continues K (F ++ option_list (b.held now)) (b.held now)

  -- it has given the fact that it held, and holds the next one or has ended
  pub record GoesOn (old new : S) : Type 0 where
    pub gave : (start : S) (F : List Fact) → b.passes start old F
        → Gave start new (F ++ option_list (b.held old))
    pub fewer : b.most new + length (option_list (b.held old)) ≤ b.most old

  -- the stream gave these facts, and then stopped at a fault
  pub record Stopped (start now : S) (F : List Fact) (fault : LoadFault) : Type 0 where
    pub reads : b.reads start now F
    pub fails : b.fails start now (Some fault)
    pub stops : b.stops start fault

  -- the stream has given the fact that it held, and stopped
  abbrev pub StopsAt : S → S → LoadFault → Type 0
  StopsAt old new fault =
      (start : S) (F : List Fact) → b.passes start old F
      → Stopped start new (F ++ option_list (b.held old)) fault

  -- nothing was read of it
  pub record IsNew (s : S) : Type 0 where
    pub held : b.held s ≡ None
    pub passes : b.passes s s []
    pub reads : b.reads s s []
    pub fails : b.fails s s None

  -- the stream with this number was advanced, and the others stay
  pub record Advances (number : ℕ) (old new : List S)
      (result : Result (Unit {0}) LoadFault) : Type 0 where
    pub before : S
    pub after : S
    pub was : slice_get old number ≡ Some before
    pub now : new ≡ slice_set old number after
    pub goes_on : OnOk result (GoesOn before after)
    pub stops : IfErr result (StopsAt before after)

  -- all that streams hold
  abbrev pub heads : List S → List Fact
  heads [] = []
  heads (s ∷ streams) = option_list (b.held s) ++ heads streams

  -- the streams hold at most so many facts from now on
  abbrev pub most_of : List S → ℕ
  most_of [] = 0
  most_of (s ∷ streams) = b.most s + most_of streams
