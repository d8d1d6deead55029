-- Framed files: a header, and then items, each in a frame that contains where it ends. How they are
-- read: `specs/Framing`.
use Rattle.std.specs.Prelude.{◌≡◌, ℕ, ◌≤◌, List, ◌++◌, length}
use Rattle.std.specs.List.{flat_map, AllByRecursion}

-- files of items V, whose header contains a T
pub record Frame (V T : Type 0) : Type 1 where
  -- the six bytes of the header
  pub header : T → List ℕ
  -- the bytes of an item with its frame
  pub item : T → V → List ℕ
  -- what follows so many items
  pub end : ℕ → List ℕ
  -- an item that has such bytes
  pub IsItem : T → V → Type 0
  -- these may be the items of one file
  pub AreInOrder : List V → Type 0

module _ {V T : Type 0} (frame : Frame V T) where
  -- the header and whole items, without the end
  abbrev pub up_to_end : T → List V → List ℕ
  up_to_end told items = frame.header told ++ flat_map (frame.item told) items

  -- at most so many items, as a file may begin with them
  pub record AreItems (limit : ℕ) (items : List V) : Type 0 where
    pub told : T
    pub valid : AllByRecursion (frame.IsItem told) items
    pub in_order : frame.AreInOrder items
    pub few : length items ≤ limit

  -- the bytes are the file of these items, at most so many
  pub record IsWhole (limit : ℕ) (bytes : List ℕ) (items : List V) : Type 0 where
    pub are_items : AreItems limit items
    pub bytes_are : bytes ≡ up_to_end are_items.told items ++ frame.end (length items)
