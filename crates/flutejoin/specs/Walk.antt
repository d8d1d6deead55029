-- A walk over the objects of facts that come in the order of their addresses.
use Rattle.std.specs.Prelude.{◌≡◌, ◌≤◌, ℕ, List, [], ◌∷◌, ◌++◌, Contains, Option, Some, None}
use Rattle.std.specs.Prelude.{length}
use Rattle.std.specs.Borrow.{Bor}
use Rattle.flute_parts.specs.Addresses.{address}
use Rattle.flute_parts.specs.Facts.{IsRising}
use Rattle.flute_parts.specs.declared.address.Part.TheVariants.{Info as InfoPart}
use Rattle.flute_parts.specs.declared.key.Key.{Key}
use Rattle.flute_parts.specs.declared.fact.Fact.{Fact}
use Rattle.flute_parts.specs.declared.fact.Fact.TheVariants.{InfoConflict}
use Rattle.flute_store.specs.declared.status.Status.{Status}
use Rattle.flute_store.specs.Scan.{Scanned}
use Rattle.flute_store.specs.Scans.{ScanState, Scans}
use Rattle.flute_store.specs.Status.{TellsStatus}
use Rattle.flutejoin.specs.Listing.{IsFirstOf}
use Rattle.flutejoin.specs.Progress.{EndsAs, IsBroken, Progress, progress_of}
use Rattle.flutejoin.specs.Told.{AreTold, Told, conflicts_of, told_of}
use Rattle.flutejoin.specs.declared.limits.TheConstants.{MAX_ENTRIES}
use Rattle.flutejoin.specs.declared.walk.object_walk.ObjectState.{ObjectState}
use Rattle.flutejoin.specs.declared.walk.object_walk.ObjectState.TheVariants.{NoInformation}
use Rattle.flutejoin.specs.declared.walk.object_walk.ObjectState.TheVariants.{ConflictingInformation}
use Rattle.flutejoin.specs.declared.walk.object_walk.ObjectState.TheVariants.{OneInformation}
use Rattle.flutejoin.specs.declared.walk.object_walk.OpenObject.{OpenObject}

-- how many conflicts a symbol is by its one value, or none if it has two
abbrev pub conflicts_in : Option (Bor (List ℕ)) → ℕ
conflicts_in None = 1
conflicts_in (Some bytes) = 0

-- these facts of an object with one information were passed, and this was told of it
pub record HasScanned (key : Key) (mine : List Fact) (progress : Option Progress)
    (scan : ScanState) : Type 0 where
  pub scanned : Scanned
  pub scans : Scans scan scanned
  pub of_key : scanned.key ≡ key
  pub facts_are : scanned.facts ≡ mine
  pub free : scanned.coming ≡ None
  pub so_far : progress ≡ Some (progress_of scanned)
  pub broken : scanned.bytes ≡ None → IsBroken scanned.key scanned.facts

-- the state of an object with these facts, of which this was told
abbrev pub StateIs : Key → List Fact → Option Progress → ObjectState → Type 0
StateIs key mine progress NoInformation =
    ((f : Fact) → Contains mine f → (address f).part ≡ InfoPart → ⊥) × (progress ≡ None)
StateIs key mine progress ConflictingInformation =
    Contains mine (InfoConflict key) × (progress ≡ None)
StateIs key mine progress (OneInformation scan) = HasScanned key mine progress scan

-- the objects before the open one, of which the last of the facts are
pub record HasOpen (F : List Fact) (objects : List Told) (progress : Option Progress)
    (object : OpenObject) : Type 0 where
  pub before : List Fact
  pub mine : List Fact
  pub all : F ≡ before ++ mine
  pub told : AreTold before objects
  pub few : length objects ≤ length before
  pub first : IsFirstOf before object.key
  pub of_object : (f : Fact) → Contains mine f → (address f).key ≡ object.key
  pub some : (f : Fact) × Contains mine f
  pub state_is : StateIs object.key mine progress object.state
  pub counted : object.conflicts ≡ conflicts_of mine object.key

-- these facts came, and nothing else; these objects ended, and this was told of the open one
abbrev pub Walks : List Fact → List Told → Option Progress → Option OpenObject → Type 0
Walks F objects progress None = (F ≡ []) × (objects ≡ []) × (progress ≡ None)
Walks F objects progress (Some object) = HasOpen F objects progress object

module _ {At V : Type 0} (Has : At → List Told → Option Progress → V → Type 0) where
  -- some facts came, no more than a journal has, and the visitor was told of their objects
  pub record IsAt (walk : Option OpenObject) (visitor : V) : Type 0 where
    pub facts : List Fact
    pub objects : List Told
    pub progress : Option Progress
    pub rising : IsRising facts
    pub few : length facts ≤ MAX_ENTRIES
    pub walks : Walks facts objects progress walk
    pub index : At
    pub has : Has index objects progress visitor

  -- and the fact may be the next
  pub record CanAdd (f : Fact) (walk : Option OpenObject) (visitor : V) : Type 0 where
    pub at : IsAt walk visitor
    pub onward : IsRising (at.facts ++ f ∷ [])

  -- what the walk and its visitor know of the facts
  pub record Stands (index : At) (F : List Fact) (walk : Option OpenObject)
      (visitor : V) : Type 0 where
    pub objects : List Told
    pub progress : Option Progress
    pub walks : Walks F objects progress walk
    pub has : Has index objects progress visitor

  -- no object is open
  pub record HasAll (index : At) (F : List Fact) (visitor : V) : Type 0 where
    pub objects : List Told
    pub told : AreTold F objects
    pub few : length objects ≤ length F
    pub has : Has index objects None visitor

-- how much is held of the object, and that all was told of it
abbrev pub TellsAll : List Fact → Key → Status → Option Progress → Type 0
TellsAll F key status progress = TellsStatus F key status × EndsAs (told_of F key) progress
