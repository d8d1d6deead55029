-- Lines of gaps that are read beside facts: how they go on.
use Rattle.std.specs.Prelude.{◌≡◌, ◌+◌, ◌-◌, ◌<◌, ◌≤◌, ◌^◌, ℕ, Bool, true, false, not, List, []}
use Rattle.std.specs.Prelude.{◌∷◌, ◌++◌, ⊤}
use Rattle.std.specs.Prelude.{length, Option, Some, None, if◌then◌else◌, IfSome}
use Rattle.std.specs.List.{flat_map, AllByRecursion}
use Rattle.std.specs.Io.KnownBytes.{Consumes}
use Rattle.std.specs.Ordering.{is_le, is_lt}
use Rattle.flute_parts.specs.Addresses.{address}
use Rattle.flute_parts.specs.Order.{address_cmp, key_cmp, same_key}
use Rattle.flute_parts.specs.declared.address.Address.{Address}
use Rattle.flute_parts.specs.declared.fact.Fact.{Fact}
use Rattle.flute_parts.specs.declared.key.Key.{Key}
use Rattle.flute_journal.specs.declared.fault.LoadFault.{LoadFault}
use Rattle.flute_store.specs.declared.status.Status.{Status}
use Rattle.flute_streams.specs.Streams.{Behaviour, Gave, address_of, option_list}
use Rattle.flutejoin.specs.FillLists.{AreInOrder, IsBadLine, IsListed, IsListing}
use Rattle.flutejoin.specs.ListedLines.{HasNoEnd}
use Rattle.flutejoin.specs.FillLists.{MayCome, asked, ends}
use Rattle.flutejoin.specs.FillLists.{is_missing_by, is_missing_in, object_of, status_in, text_of}
use Rattle.flutejoin.specs.FillLists.{last_of, wants}
use Rattle.flutejoin.specs.ListedLines.{IsOneLine}
use Rattle.flutejoin.specs.Lines.{line}
use Rattle.flutejoin.specs.declared.fill.asking.Asking.{Asking}
use Rattle.flutejoin.specs.declared.fill.filled.Filled.{Filled}
use Rattle.flutejoin.specs.declared.fill.filled.Turn.{Turn}
use Rattle.flutejoin.specs.declared.fill.filled.Turn.TheVariants.{Stay, Facts, Lines}
use Rattle.flutejoin.specs.declared.fill.gap_list.GapList.{GapList}
use Rattle.flutejoin.specs.declared.fill.gap_list.GapListFault.{GapListFault}
use Rattle.flutejoin.specs.declared.fill.gap_list.GapListFault.TheVariants as faults
use Rattle.flutejoin.specs.declared.fill.gap_list.LastLine.{LastLine}
use Rattle.flutejoin.specs.declared.fill.gap_list.LastLine.TheVariants.{Unread, Ended}
use Rattle.flutejoin.specs.declared.fill.gap_list.LastLine.TheVariants.{Line as Held}
use Rattle.flutejoin.specs.declared.fill.gap_list.ListedObject.{ListedObject}
use Rattle.flutejoin.specs.declared.fill.listed_line.ListedLine.{ListedLine}
use Rattle.flutejoin.specs.declared.fill.listed_line.ListedLine.TheVariants.{Object as ObjectLine}
use Rattle.flutejoin.specs.declared.fill.listed_line.ListedLine.TheVariants.{Gap as GapLine}

-- ---- what is known of the lines so far

-- the line that is held, as a list of at most one
abbrev pub line_of : LastLine → List ListedLine
line_of (Held l) = l ∷ []
line_of _ = []

-- the line that is held, which the next one follows
abbrev pub before_of : LastLine → Option ListedLine
before_of (Held l) = Some l
before_of last = None

-- the next of the bytes, behind so many lines, are no line that may follow: the line with this
-- number
pub data IsBadNext (before : Option ListedLine) (read : ℕ) (bytes : List ℕ)
    (number : ℕ) : Type 0 where
  other : (words rest : List ℕ) → bytes ≡ line words ++ rest → IsOneLine words
      → ((l : ListedLine) → IsListed l → MayCome before l → line words ≡ text_of l → ⊥)
      → number ≡ read + 1 → IsBadNext before read bytes number
  no_end : HasNoEnd bytes → number ≡ read + 1 → IsBadNext before read bytes number
  too_many : read ≡ 2 ^ 64 - 1 → number ≡ 2 ^ 64 - 1 → IsBadNext before read bytes number

-- the next line is to be read before it is known whether what is at an address is asked for
abbrev pub is_behind_line : ListedLine → Address → Bool
is_behind_line (ObjectLine key status) at = is_le (key_cmp key at.key)
is_behind_line (GapLine key gap) at = is_lt (address_cmp (ends (GapLine key gap)) at)

-- whether a further line is to be read before the address can be decided
abbrev pub is_behind : LastLine → Option Address → Bool
is_behind Unread at = true
is_behind Ended at = false
is_behind (Held l) None = true
is_behind (Held l) (Some at) = is_behind_line l at

-- how much is held of an object, by the last one
abbrev pub status_at : Option ListedObject → Key → Option Status
status_at None key = None
status_at (Some object) key = if same_key object.key key then Some object.status else None

-- the object, once a line was let go of
abbrev pub object_after : Option ListedObject → ListedLine → Option ListedObject
object_after object (ObjectLine key status) = Some (record { key = key; status = status })
object_after object (GapLine key gap) = object

-- the object of the line that was read last
abbrev pub after_last : Option ListedObject → LastLine → Option ListedObject
after_last object (Held l) = object_after object l
after_last object last = object

-- whether the line that is held names an address as missing
abbrev pub missing_at : LastLine → Address → Bool
missing_at (Held l) at = is_missing_by at l
missing_at _ at = false

-- whether what was read of the list asks for an address
abbrev pub asks_at : Asking → Option ListedObject → LastLine → Address → Bool
asks_at asking object last at =
    wants asking (status_at object at.key) (missing_at last at) at.part

-- the line, if there is one, is behind an address
abbrev pub IsBehind : Option ListedLine → Address → Type 0
IsBehind None at = ⊤
IsBehind (Some l) at = is_behind_line l at ≡ true

-- and behind what is held
abbrev pub HasReached : Option ListedLine → Option Fact → Type 0
HasReached before None = ⊤
HasReached before (Some f) = IsBehind before (address f)

-- the line that is held is of this object
abbrev pub IsOf : Option ListedObject → Option ListedLine → Type 0
IsOf None None = ⊤
IsOf None (Some l) = ⊥
IsOf (Some object) None = ⊥
IsOf (Some object) (Some l) = object.key ≡ object_of l

-- by the object of the last of some lines it is known what they tell of addresses that they are
-- behind: how much is held there, and that nothing is missing
pub record Knows (passed : List ListedLine) (object : Option ListedObject) : Type 0 where
  pub of_last : IsOf object (last_of None passed)
  pub status : (at : Address) → IsBehind (last_of None passed) at
      → status_in passed at.key ≡ status_at object at.key
  pub none_missing : (at : Address) → IsBehind (last_of None passed) at
      → is_missing_in passed at ≡ false

-- how many lines may still be read, and one for the end
abbrev pub lines_left : LastLine → ℕ → ℕ
lines_left Ended number = 0
lines_left last number = 2 ^ 64 - number

module _ {R : Type 0} (unread : R → Option (List ℕ)) (failures : R → ℕ) where
  -- what was read next is this: a line, or that there is none
  abbrev pub ReadsNext : GapList R → GapList R → LastLine → Type 0
  ReadsNext old new Unread = ⊥
  ReadsNext old new Ended =
      IfSome (unread old.source) (λ bytes. bytes ≡ [])
      × Consumes (unread old.source) (unread new.source) [] × (new.number ≡ old.number)
  ReadsNext old new (Held l) =
      MayCome (before_of old.last) l
      × Consumes (unread old.source) (unread new.source) (text_of l)
      × (new.number ≡ old.number + 1) × IsListed l

  -- why no next line was read
  abbrev pub NoNext : GapList R → GapList R → GapListFault → Type 0
  NoNext old new faults.Read = failures new.source ≡ failures old.source + 1
  NoNext old new (faults.Line number) =
      IfSome (unread old.source)
      (λ bytes. IsBadNext (before_of old.last) old.number bytes number)
      × (failures new.source ≡ failures old.source)

  -- these lines were read of a list and let go of, and what is held was read after them
  pub record Stands (start now : GapList R) (passed : List ListedLine) : Type 0 where
    pub read : Consumes (unread start.source) (unread now.source)
        (flat_map text_of (passed ++ line_of now.last))
    pub in_order : AreInOrder None (passed ++ line_of now.last)
    pub listed : AllByRecursion IsListed (passed ++ line_of now.last)
    pub number_is : now.number ≡ length (passed ++ line_of now.last)
    pub fails : failures now.source ≡ failures start.source
    pub unread_yet : now.last ≡ Unread → passed ≡ []
    pub ended : now.last ≡ Ended
        → IfSome (unread start.source) (λ bytes. IsListing bytes passed)
    pub knows : Knows passed now.object

  -- why no line more was read, and how often the source failed for that
  abbrev pub StopsAfter : GapList R → GapList R → GapListFault → Type 0
  StopsAfter start now faults.Read = failures now.source ≡ failures start.source + 1
  StopsAfter start now (faults.Line number) =
      IfSome (unread start.source) (λ bytes. IsBadLine bytes number)
      × (failures now.source ≡ failures start.source)

-- ---- the facts beside them

-- what goes on, by what is held of the facts, and of the lines
abbrev pub turn_at : Asking → Option ListedObject → LastLine → Option Address → Turn
turn_at asking object last None = Stay
turn_at asking object last (Some at) = if asks_at asking object last at then Stay else Facts

-- what is to be done next: read a line, give the fact, or pass over it
abbrev pub turn_of : Asking → Option ListedObject → LastLine → Option Address → Turn
turn_of asking object last at =
    if is_behind last at then Lines else turn_at asking object last at

-- P holds of some facts, Q of some lines, and these are those of the facts that the lines ask for
pub record AskedOf (asking : Asking) (P : List Fact → Type 0) (Q : List ListedLine → Type 0)
    (facts : List Fact) : Type 0 where
  pub all : List Fact
  pub lines : List ListedLine
  pub facts_are : P all
  pub lines_are : Q lines
  pub asked_for : facts ≡ asked asking lines all

-- the lines are those of the bytes, if these are known
abbrev pub AreOf : Option (List ℕ) → List ListedLine → Type 0
AreOf input lines = IfSome input (λ bytes. IsListing bytes lines)

module _ {S R : Type 0} (a : Behaviour S) (unread : R → Option (List ℕ)) (failures : R → ℕ) where
  -- what a stream is to do next: read a line, give the fact, or pass over it
  abbrev pub turn_in : Filled S R → Turn
  turn_in m = turn_of m.asking m.list.object m.list.last (address_of (a.held m.facts))

  -- the facts were given, the lines read, and these are those that were asked for, whatever lines
  -- follow
  pub record Between (start now : Filled S R) (facts : List Fact) : Type 0 where
    pub all : List Fact
    pub passed : List ListedLine
    pub gave : Gave a start.facts now.facts all
    pub stands : Stands unread failures start.list now.list passed
    pub asked_for : (rest : List ListedLine)
        → AreInOrder None ((passed ++ line_of now.list.last) ++ rest)
        → (now.list.last ≡ Ended → rest ≡ [])
        → facts ≡ asked now.asking ((passed ++ line_of now.list.last) ++ rest) all
    pub reached : HasReached (last_of None passed) (a.held now.facts)
    pub same : now.asking ≡ start.asking
    pub begun : now.begun ≡ true
    pub sound : now.list_fault ≡ None

  -- nothing was read
  pub record IsUntouched (start now : Filled S R) (facts : List Fact) : Type 0 where
    pub held : a.held now.facts ≡ None
    pub passes : a.passes start.facts now.facts []
    pub fails : a.fails start.facts now.facts None
    pub stands : Stands unread failures start.list now.list []
    pub fresh : now.list.last ≡ Unread
    pub same : now.asking ≡ start.asking
    pub sound : now.list_fault ≡ None
    pub none : facts ≡ []

  -- how far the stream and the list are, after the facts that were given
  abbrev pub Passed : Bool → Filled S R → Filled S R → List Fact → Type 0
  Passed false start now facts = IsUntouched start now facts
  Passed true start now facts = Between start now facts × (turn_in now ≡ Stay)

  -- what failed as this fault says, which is its own, and the other did not
  abbrev pub FailsIn : Option GapListFault → Filled S R → Filled S R → LoadFault → Type 0
  FailsIn None start now fault =
      a.stops start.facts fault × a.fails start.facts now.facts (Some fault)
      × (failures now.list.source ≡ failures start.list.source)
  FailsIn (Some why) start now fault =
      StopsAfter unread failures start.list now.list why × a.fails start.facts now.facts None

  -- whether the stream or the list failed, if any did
  abbrev pub FilledFails : Filled S R → Filled S R → Option LoadFault → Type 0
  FilledFails start now None =
      a.fails start.facts now.facts None × (failures now.list.source ≡ failures start.list.source)
  FilledFails start now (Some fault) = FailsIn now.list_fault start now fault

  -- what it reads, and what it is known to give, is not told
  abbrev pub filled_behaviour : Behaviour (Filled S R)
  filled_behaviour = record {
    held = λ m. a.held m.facts;
    spelled = λ m. a.spelled m.facts;
    most = λ m. a.most m.facts;
    tells = λ m facts. AskedOf m.asking (a.tells m.facts) (AreOf (unread m.list.source)) facts;
    knows = λ m facts. ⊥;
    stops = λ m fault. ⊤;
    passes = λ start now facts. Passed now.begun start now facts;
    reads = λ start now facts. ⊤;
    fails = FilledFails;
    ends = λ start now facts.
        AskedOf start.asking (a.ends start.facts now.facts) (AreOf (unread start.list.source))
        facts;
  }

  -- the stream let go of what it held, and its facts and lines went on since
  pub record Walks (old now : Filled S R) : Type 0 where
    pub between : (start : Filled S R) (facts : List Fact) → Passed old.begun start old facts
        → Between start now (facts ++ option_list (a.held old.facts))
    pub begun : now.begun ≡ true
    pub fewer : a.most now.facts + length (option_list (a.held old.facts)) ≤ a.most old.facts

  -- how much may still be read
  abbrev pub left_to_read : Filled S R → ℕ
  left_to_read m = a.most m.facts + lines_left m.list.last m.list.number

  -- the facts or the lines went on, or no more is passed over
  pub record Moves (old now : Filled S R) (more : Bool) : Type 0 where
    pub walks : (x : Filled S R) → Walks x old → Walks x now
    pub stays : more ≡ false → turn_in now ≡ Stay
    pub less : more ≡ true → left_to_read now < left_to_read old
