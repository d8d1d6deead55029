-- What is told of two streams.
use Rattle.std.specs.Prelude.{◌≡◌, ℕ, zero, suc, Bool, true, false, ◌||◌, List, [], ◌∷◌, ◌++◌}
use Rattle.std.specs.Prelude.{◌+◌, ◌≤◌, length, map, Option, Some, None}
use Rattle.flute_parts.specs.Addresses.{address}
use Rattle.flute_parts.specs.Facts.{StandAfter}
use Rattle.flute_parts.specs.declared.address.Address.{Address}
use Rattle.flute_parts.specs.declared.fact.Fact.{Fact}
use Rattle.flute_parts.specs.declared.key.Key.{Key}
use Rattle.flute_journal.specs.declared.fault.LoadFault.{LoadFault}
use Rattle.flute_streams.specs.Behind.{Behind}
use Rattle.flute_streams.specs.Compared.{AreRows, KeysRise, is_listed, is_named}
use Rattle.flute_streams.specs.Counting.{side_of, told_of}
use Rattle.flute_streams.specs.Streams.{Behaviour, Gave, GoesOn, StopsAt, option_list}
use Rattle.flute_streams.specs.declared.merge.sides.Row.{Row}
use Rattle.flute_streams.specs.declared.merge.sides.Side.{Side}
use Rattle.flute_streams.specs.declared.merge.sides.Side.TheVariants.{First, Second}
use Rattle.flute_streams.specs.declared.merge.streams_fault.StreamsFault.{StreamsFault}
use Rattle.flute_streams.specs.declared.merge.streams_fault.StreamsFault.TheVariants.{Input, Write}

-- which side has these facts at one address
abbrev pub IsSideOf : Option Fact → Option Fact → Side → Type 0
IsSideOf held other side =
    (f g : Fact) → held ≡ Some f → other ≡ Some g → side ≡ side_of (Some f) (Some g)

-- whether the first stream goes on after a meeting of this side
abbrev pub first_goes : Side → Bool
first_goes Second = false
first_goes side = true

-- whether the second stream goes on after a meeting of this side
abbrev pub second_goes : Side → Bool
second_goes First = false
second_goes side = true

-- the stream went on, or if not, it is as it was
abbrev pub GoesIf : {S : Type 0} → Behaviour S → Bool → S → S → Type 0
GoesIf b true old new = GoesOn b old new
GoesIf b false old new = new ≡ old

-- an address that was met is before what is held
abbrev pub Past : Option Address → Option Fact → Type 0
Past None held = Unit {0}
Past (Some x) held = StandAfter x (option_list held)

-- the object at an address, as a list of at most one
abbrev pub keys_at : Option Address → List Key
keys_at None = []
keys_at (Some x) = x.key ∷ []

-- the row of the object at an address
abbrev pub row_at : List Fact → List Fact → Option Address → Option Row
row_at all others None = None
row_at all others (Some x) = Some (told_of all others x.key)

-- between two states rows were taken for which this holds
pub record Tells {V : Type 0} (takes : V → List Row → V → Type 0) (So : List Row → Type 0)
    (old new : V) : Type 0 where
  pub rows : List Row
  pub taken : takes old rows new
  pub so : So rows

-- what was taken before a fault: rows, and if one was not taken, not that one
abbrev pub TellsBefore : {V : Type 0} → (V → List Row → V → Type 0) → (V → V → Type 0)
    → V → V → StreamsFault → Type 0
TellsBefore takes fails old new (Input fault) = (rows : List Row) × takes old rows new
TellsBefore takes fails old new Write = fails old new

module _ {S T : Type 0} (a : Behaviour S) (b : Behaviour T) where
  -- both streams after a meeting of this side: those that had the address went on
  abbrev pub GoesOnBoth : Side → S → T → S → T → Type 0
  GoesOnBoth side s t s' t' = GoesIf a (first_goes side) s s' × GoesIf b (second_goes side) t t'

  -- the stream with this number stopped
  abbrev pub StopAs : Side → ℕ → LoadFault → S → T → S → T → Type 0
  StopAs side zero fault s t s' t' = StopsAt a s s' fault × (t' ≡ t)
  StopAs side (suc zero) fault s t s' t' =
      GoesIf a (first_goes side) s s' × StopsAt b t t' fault
  StopAs side number fault s t s' t' = ⊥

  -- one of the two streams stopped at this fault as they went on
  abbrev pub StopsOne : Side → S → T → S → T → StreamsFault → Type 0
  StopsOne side s t s' t' (Input fault) = StopAs side fault.number fault.fault s t s' t'
  StopsOne side s t s' t' Write = ⊥

  -- both gave their facts and ended, no device failed, and of each object that they name a row was
  -- told
  pub record ComparedAs (s : S) (t : T) (s' : S) (t' : T) (old new : List Row) : Type 0 where
    pub facts : List Fact
    pub others : List Fact
    pub first_tells : a.tells s facts
    pub second_tells : b.tells t others
    pub first_ends : a.ends s s' facts
    pub second_ends : b.ends t t' others
    pub first_quiet : a.fails s s' None
    pub second_quiet : b.fails t t' None
    pub first_few : length facts ≤ a.most s
    pub second_few : length others ≤ b.most t
    pub rows : List Row
    pub are : AreRows facts others rows
    pub told : new ≡ old ++ rows

  -- the stream with this number stopped at its fault, and the other did not fail
  abbrev pub StopIn : ℕ → LoadFault → S → T → S → T → Type 0
  StopIn zero fault s t s' t' =
      a.stops s fault × a.fails s s' (Some fault) × b.fails t t' None
  StopIn (suc zero) fault s t s' t' =
      b.stops t fault × b.fails t t' (Some fault) × a.fails s s' None
  StopIn number fault s t s' t' = ⊥

  -- why a comparison stopped: a stream failed, or else what takes the rows
  abbrev pub StopsComparing : S → T → S → T → StreamsFault → Type 0
  StopsComparing s t s' t' (Input fault) = StopIn fault.number fault.fault s t s' t'
  StopsComparing s t s' t' Write = a.fails s s' None × b.fails t t' None

  -- what was told of what both gave, and the row that is still counted on
  pub record Counts (start : S) (begin : T) (s : S) (t : T) (old told : List Row)
      (row : Option Row) : Type 0 where
    pub all : List Fact
    pub others : List Fact
    pub first : Gave a start s all
    pub second : Gave b begin t others
    pub first_behind : Behind (b.held t) all
    pub second_behind : Behind (a.held s) others
    pub before : List Key
    pub last : Option Address
    pub first_met : last ≡ None → before ≡ []
    pub told_is : told ≡ old ++ map (told_of all others) before
    pub row_is : row ≡ row_at all others last
    pub rise : KeysRise (before ++ keys_at last)
    pub named : (key : Key)
        → is_listed key (before ++ keys_at last) ≡ (is_named key all || is_named key others)
    pub first_past : Past last (a.held s)
    pub second_past : Past last (b.held t)
    pub first_few : length all + a.most s ≤ a.most start
    pub second_few : length others + b.most t ≤ b.most begin
