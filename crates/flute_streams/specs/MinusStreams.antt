-- A stream of the facts that a join would change another stream's by.
use Rattle.std.specs.Prelude.{◌≡◌, ◌⊎◌, ◌+◌, ◌<◌, ◌≤◌, ℕ, Bool, true, false, List, [], ◌∷◌, ◌++◌}
use Rattle.std.specs.Prelude.{length, Option, Some, None, if◌then◌else◌}
use Rattle.std.specs.declared.cmp.Ordering.{Ordering}
use Rattle.std.specs.declared.cmp.Ordering.TheVariants.{Less, Equal, Greater}
use Rattle.flute_parts.specs.Addresses.{address}
use Rattle.flute_parts.specs.Order.{address_cmp}
use Rattle.flute_parts.specs.declared.fact.Fact.{Fact}
use Rattle.flute_journal.specs.declared.fault.LoadFault.{LoadFault}
use Rattle.flute_streams.specs.Streams.{Behaviour, Gave, option_list}
use Rattle.flute_streams.specs.declared.streams.minus.Minus.{Minus}
use Rattle.flute_streams.specs.declared.streams.minus.Turn.{Turn}
use Rattle.flute_streams.specs.declared.streams.minus.Turn.TheVariants.{Stay, First, Second}
use Rattle.flute_streams.specs.Behind.{Behind, UpTo}
use Rattle.flute_streams.specs.Minus.{has, minus}

-- which of two streams goes on, or neither (`Stay`), by the order of their facts, and by whether
-- the second has the fact of the first
abbrev pub turn_at : Ordering → Bool → Turn
turn_at Less has = Stay
turn_at Equal has = if has then First else Stay
turn_at Greater has = Second

-- which of two streams goes on, or neither, by the facts that they hold
abbrev pub turn_of : Option Fact → Option Fact → Turn
turn_of (Some f) (Some g) = turn_at (address_cmp (address f) (address g)) (has (Some g) f)
turn_of (Some f) None = Stay
turn_of None (Some g) = Second
turn_of None None = Stay

-- P holds of some facts and Q of others, and these are what a join with the first would change the
-- others by
pub record LeftOf (P Q : List Fact → Type 0) (facts : List Fact) : Type 0 where
  pub all : List Fact
  pub others : List Fact
  pub first : P all
  pub second : Q others
  pub left : facts ≡ minus all others

-- since a stream was new, nothing was read of it
pub record StillNew {S : Type 0} (b : Behaviour S) (start now : S) : Type 0 where
  pub held : b.held now ≡ None
  pub passes : b.passes start now []
  pub reads : b.reads start now []
  pub fails : b.fails start now None

module _ {S T : Type 0} (a : Behaviour S) (b : Behaviour T) where
  -- what both gave, and that this is left of it
  pub record Between (start now : Minus S T) (facts : List Fact) : Type 0 where
    pub all : List Fact
    pub others : List Fact
    pub first : Gave a start.first now.first all
    pub second : Gave b start.second now.second others
    pub left : facts ≡ minus all (others ++ option_list (b.held now.second))
    pub up_to : UpTo (b.held now.second) all
    pub behind : Behind (a.held now.first) others
    pub begun : now.begun ≡ true
    pub sound : now.in_second ≡ false

  -- how far both streams are, after the facts that were given
  abbrev pub Passed : Bool → Minus S T → Minus S T → List Fact → Type 0
  Passed false start now facts =
      StillNew a start.first now.first × StillNew b start.second now.second
      × (facts ≡ []) × (now.in_second ≡ false)
  Passed true start now facts =
      Between start now facts × (turn_of (a.held now.first) (b.held now.second) ≡ Stay)

  -- the stream that stopped failed as this fault says, which is its own, and the other did not
  abbrev pub FailsIn : Bool → Minus S T → Minus S T → LoadFault → Type 0
  FailsIn false start now fault =
      a.stops start.first fault × a.fails start.first now.first (Some fault)
      × b.fails start.second now.second None
  FailsIn true start now fault =
      b.stops start.second fault × b.fails start.second now.second (Some fault)
      × a.fails start.first now.first None

  -- which of the two streams failed, if any did
  abbrev pub MinusFails : Minus S T → Minus S T → Option LoadFault → Type 0
  MinusFails start now None =
      a.fails start.first now.first None × b.fails start.second now.second None
  MinusFails start now (Some fault) = FailsIn now.in_second start now fault

  -- how the stream of what one would add to the other behaves
  abbrev pub minus_behaviour : Behaviour (Minus S T)
  minus_behaviour = record {
    held = λ m. a.held m.first;
    spelled = λ m. a.spelled m.first;
    most = λ m. a.most m.first;
    tells = λ m facts. LeftOf (a.tells m.first) (b.tells m.second) facts;
    knows = λ m facts. LeftOf (a.knows m.first) (b.knows m.second) facts;
    stops = λ m fault. a.stops m.first fault ⊎ b.stops m.second fault;
    passes = λ start now facts. Passed now.begun start now facts;
    reads = λ start now facts.
        LeftOf (a.reads start.first now.first) (b.reads start.second now.second) facts;
    fails = MinusFails;
    ends = λ start now facts.
        LeftOf (a.ends start.first now.first) (b.ends start.second now.second) facts;
  }

  -- the stream let go of what it held, and its two streams went on since
  pub record Walks (old now : Minus S T) : Type 0 where
    pub between : (start : Minus S T) (facts : List Fact) → Passed old.begun start old facts
        → Between start now (facts ++ option_list (a.held old.first))
    pub begun : now.begun ≡ true
    pub fewer : a.most now.first + length (option_list (a.held old.first)) ≤ a.most old.first

  -- how much may still be read
  abbrev pub left_to_read : Minus S T → ℕ
  left_to_read m = a.most m.first + b.most m.second

  -- one of the streams went on, or no more is passed over
  pub record Moves (old now : Minus S T) (more : Bool) : Type 0 where
    pub walks : (x : Minus S T) → Walks x old → Walks x now
    pub stays : more ≡ false → turn_of (a.held now.first) (b.held now.second) ≡ Stay
    pub less : more ≡ true → left_to_read now < left_to_read old
