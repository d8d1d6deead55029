-- How framed files are read, and which fault bytes have that are none.
use Rattle.std.specs.Prelude.{◌≡◌, ℕ, ◌<◌, ◌≤◌, ◌⊎◌, Bool, true, false}
use Rattle.std.specs.Prelude.{IsTrue, List, [], ◌∷◌, ◌++◌, length, drop, Option, Some}
use Rattle.std.specs.Prelude.{None, ⊤, IfSome, Result, Ok, Err}
use Rattle.std.specs.Io.KnownBytes.{Consumes, Keeps, IsAtEnd}
use Rattle.flute_journal.specs.declared.fault.ReadFault.{ReadFault}
use Rattle.flute_journal.specs.declared.fault.ReadFault.TheVariants as faults
use Rattle.flute_journal.specs.declared.readers.reader_state.ReaderState.{ReaderState}
use Rattle.flute_journal.specs.declared.readers.reader_state.ReaderState.TheVariants.{Header, Items}
use Rattle.flute_journal.specs.declared.readers.reader_state.ReaderState.TheVariants.{Ended, Failed}
use Rattle.flute_journal.specs.Frame.{Frame, AreItems, up_to_end}
use Rattle.flute_journal.specs.Input.{AsksMemory, IsFaultUpTo, IsSettled, IsWithin}

-- The reading of framed files, item by item. As in `specs/Frame`, V is the type of an item, T that
-- of what the header contains (its values are named `told`). P is the type of a reader's place:
-- what it keeps of the header, and of the items before it.
pub record Framing (V P T : Type 0) : Type 1 where
  pub frame : Frame V T
  -- the place after these items
  pub place_after : T → List V → P
  -- the place after one item more
  pub next : P → V → P
  -- what the header before this place contains
  pub told : P → T
  -- how many items are before it
  pub count : P → ℕ
  -- whether the item may be next there
  pub may_follow : P → V → Bool
  -- the first fault of the header of these bytes
  pub header_fault : List ℕ → Option ReadFault
  -- what a header without fault contains
  pub told_in : List ℕ → T
  -- the first fault of the bytes at a place, up to the next item, if there may be so many
  pub next_fault : P → ℕ → List ℕ → Option ReadFault
  -- a fault that reading may have
  pub IsFault : ReadFault → Type 0

-- the first of two faults, if there is one, else the second
abbrev pub or_else : Option ReadFault → Option ReadFault → Option ReadFault
or_else None second = second
or_else (Some f) second = Some f

-- more may be read
abbrev pub is_open : {P : Type 0} → ReaderState P → Bool
is_open Header = true
is_open (Items place) = true
is_open Ended = false
is_open (Failed f) = false

-- Where other bytes stop being such a file.

module _ {V P T : Type 0} (framing : Framing V P T) where
  -- whole items follow the header, and then bytes at fault
  pub record StopsAfterItems (bytes : List ℕ) (limit : ℕ) (items : List V)
      (fault : ReadFault) : Type 0 where
    pub are_items : AreItems framing.frame limit items
    pub rest : List ℕ
    pub whole : bytes ≡ up_to_end framing.frame are_items.told items ++ rest
    pub first :
        framing.next_fault (framing.place_after are_items.told items) limit rest ≡ Some fault

-- the first field at fault has this fault, and these are the items that end before it
pub data Stops {V P T : Type 0} (framing : Framing V P T) (bytes : List ℕ) (limit : ℕ)
    (items : List V) (fault : ReadFault) : Type 0 where
  in_header : items ≡ [] → framing.header_fault bytes ≡ Some fault
      → Stops framing bytes limit items fault
  after_items : StopsAfterItems framing bytes limit items fault
      → Stops framing bytes limit items fault

-- What the calls of a reader give.

module _ {V P T : Type 0} (framing : Framing V P T) where
  -- whole items follow the header, and then so much of the next that it has no fault but that
  -- it may be cut
  pub record MayRunOut (bytes : List ℕ) (limit : ℕ) (items : List V) : Type 0 where
    pub are_items : AreItems framing.frame limit items
    pub seen : List ℕ
    pub rest : List ℕ
    pub whole : bytes ≡ up_to_end framing.frame are_items.told items ++ (seen ++ rest)
    pub settled :
        IsSettled (framing.next_fault (framing.place_after are_items.told items) limit) seen

  -- the bytes that were left stop at this fault, if it is one of theirs; memory runs out only
  -- where no other fault is certain
  abbrev pub HasFault : ℕ → Option (List ℕ) → ReadFault → Type 0
  HasFault limit old faults.Read = ⊤
  HasFault limit old faults.OutOfMemory =
      IfSome old (λ bytes. (items : List V) × MayRunOut bytes limit items)
  HasFault limit old f =
      IfSome old (λ bytes. (items : List V) × Stops framing bytes limit items f)

  -- the next item or the end was read, and no byte more; or the bytes are at fault
  abbrev pub ReadsNext : ℕ → P → Option (List ℕ) → Option (List ℕ)
      → Result (Option V) ReadFault → Type 0
  ReadsNext limit place old new (Ok (Some x)) =
      framing.frame.IsItem (framing.told place) x × IsTrue (framing.may_follow place x)
      × (framing.count place < limit) × Consumes old new (framing.frame.item (framing.told place) x)
  ReadsNext limit place old new (Ok None) =
      Consumes old new (framing.frame.end (framing.count place)) × IsAtEnd new
  ReadsNext limit place old new (Err f) =
      IsFaultUpTo (framing.frame.end (framing.count place))
      (framing.next_fault place limit) old new f

  -- how many items a reader gave
  abbrev pub count_at : ReaderState P → ℕ
  count_at (Items place) = framing.count place
  count_at _ = 0

  -- the place of a reader's next item; of one that has not read the header, if that contains `told`
  abbrev pub place_at : T → ReaderState P → P
  place_at told (Items place) = place
  place_at told _ = framing.place_after told []

  -- what the header contains, as a reader knows it; of one that has not read it, `told`
  abbrev pub told_at : T → ReaderState P → T
  told_at told state = framing.told (place_at told state)

  -- the bytes before the next item: the header, as long as that was not read
  abbrev pub opening : T → ReaderState P → List ℕ
  opening told Header = framing.frame.header told
  opening told _ = []

  -- the bytes that a reader takes for the next item: what is before it, and the item
  abbrev pub next_bytes : T → ReaderState P → V → List ℕ
  next_bytes told state x = opening told state ++ framing.frame.item (told_at told state) x

  -- the bytes that a reader takes for the end: what is before it, and the end
  abbrev pub end_bytes : T → ReaderState P → List ℕ
  end_bytes told state =
      opening told state ++ framing.frame.end (framing.count (place_at told state))

  -- the first fault of the bytes that are left, up to the end of the next item
  abbrev pub fault_from : ReaderState P → ℕ → List ℕ → Option ReadFault
  fault_from Header limit bytes =
      or_else (framing.header_fault bytes)
      (framing.next_fault (framing.place_after (framing.told_in bytes) []) limit (drop 6 bytes))
  fault_from state limit bytes =
      framing.next_fault (place_at (framing.told_in bytes) state) limit bytes

  -- the next item was given, and no byte past it was read
  pub record GivesItem (limit : ℕ) (old new : ReaderState P) (left after : Option (List ℕ))
      (x : V) : Type 0 where
    pub told : T
    pub open_before : IsTrue (is_open old)
    pub valid : framing.frame.IsItem (told_at told old) x
    pub in_order : IsTrue (framing.may_follow (place_at told old) x)
    pub within : framing.count (place_at told old) < limit
    pub goes_on : new ≡ Items (framing.next (place_at told old) x)
    pub bytes : Consumes left after (next_bytes told old x)

  -- the end was read, now or before
  pub record GivesEnd (old new : ReaderState P) (left after : Option (List ℕ)) : Type 0 where
    pub told : T
    pub ended : new ≡ Ended
    pub bytes : ((old ≡ Ended) × Keeps left after)
        ⊎ (IsTrue (is_open old) × Consumes left after (end_bytes told old) × IsAtEnd after)

-- What a failed call has read, if the header contains `told`: at most the bytes before the next
-- item, the `opening` (in_opening); or all of these, and of the bytes behind them at most one whole
-- item (in_item).
pub data IsPart {V P T : Type 0} (framing : Framing V P T) (told : T) (old : ReaderState P)
    (part : List ℕ) : Type 0 where
  in_opening : length part ≤ length (opening framing told old) → IsPart framing told old part
  in_item : (more : List ℕ) → part ≡ opening framing told old ++ more
      → IsWithin (framing.frame.item (told_at framing told old))
      (framing.frame.IsItem (told_at framing told old)) more
      → IsPart framing told old part

module _ {V P T : Type 0} (framing : Framing V P T) where
  -- memory was asked for to read the next item, after what precedes it was consumed
  abbrev pub AsksForItem : T → ℕ → ReaderState P → Option (List ℕ) → Option (List ℕ) → Type 0
  AsksForItem told limit old left after =
      (behind : Option (List ℕ)) × Consumes left behind (opening framing told old)
      × AsksMemory (framing.next_fault (place_at framing told old) limit) behind after

  -- the bytes that were left have this fault, if a header that was still to be read contains this
  pub record IsAtFault (told : T) (limit : ℕ) (old : ReaderState P) (left after : Option (List ℕ))
      (f : ReadFault) : Type 0 where
    pub fault : IsFaultUpTo (end_bytes framing told old) (fault_from framing old limit) left after f
    pub possible : framing.IsFault f
    pub asks : f ≡ faults.OutOfMemory → AsksForItem told limit old left after
    pub part : List ℕ
    pub read : Consumes left after part
    pub is_part : IsPart framing told old part

  -- a fault was found, now or by a call before, and all later calls return it; `found` says which
  pub record GivesFault (limit : ℕ) (old new : ReaderState P) (left after : Option (List ℕ))
      (f : ReadFault) : Type 0 where
    pub told : T
    pub stays : new ≡ Failed f
    pub found : ((old ≡ Failed f) × Keeps left after)
        ⊎ (IsTrue (is_open old) × IsAtFault told limit old left after f)

  -- what a call of the reader did, by its result: gave an item, the end, or a fault
  abbrev pub Gives : ℕ → ReaderState P → ReaderState P → Option (List ℕ) → Option (List ℕ)
      → Result (Option V) ReadFault → Type 0
  Gives limit old new left after (Ok (Some x)) = GivesItem framing limit old new left after x
  Gives limit old new left after (Ok None) = GivesEnd framing old new left after
  Gives limit old new left after (Err f) = GivesFault limit old new left after f

  -- reading on from an open state: the next item, the end, or a fault
  abbrev pub ReadsFrom : T → ℕ → ReaderState P → Option (List ℕ) → Option (List ℕ)
      → Result (Option V) ReadFault → Type 0
  ReadsFrom told limit old left after (Ok (Some x)) =
      framing.frame.IsItem (told_at framing told old) x
      × IsTrue (framing.may_follow (place_at framing told old) x)
      × (framing.count (place_at framing told old) < limit)
      × Consumes left after (next_bytes framing told old x)
  ReadsFrom told limit old left after (Ok None) =
      Consumes left after (end_bytes framing told old) × IsAtEnd after
  ReadsFrom told limit old left after (Err f) = IsAtFault told limit old left after f

  -- the state of a reader that gave this at a place
  abbrev pub state_after : P → Result (Option V) ReadFault → ReaderState P
  state_after place (Ok (Some x)) = Items (framing.next place x)
  state_after place (Ok None) = Ended
  state_after place (Err f) = Failed f

  -- What was read so far.

  -- the state of a reader that gave these items
  abbrev pub state_at : T → List V → ReaderState P
  state_at told [] = Header
  state_at told (x ∷ xs) = Items (framing.place_after told (x ∷ xs))

  -- what was read of the file then: nothing before the first item
  abbrev pub read_of : T → List V → List ℕ
  read_of told [] = []
  read_of told (x ∷ xs) = up_to_end framing.frame told (x ∷ xs)

  -- these items were read, and nothing else
  pub record Sofar (limit : ℕ) (first now : Option (List ℕ)) (state : ReaderState P)
      (items : List V) : Type 0 where
    pub are_items : AreItems framing.frame limit items
    pub state_is : state ≡ state_at are_items.told items
    pub read : Consumes first now (read_of are_items.told items)
