-- A disk, as the calls of a system see it: what each name leads to, what each file has, and what of
-- both the disk has for certain.
use Rattle.std.specs.Prelude.{◌≡◌, ◌≢◌, ◌⊎◌, ◌++◌, ℕ, ◌+◌, Bool, true, false, List, [], ◌∷◌, take}
use Rattle.std.specs.Prelude.{Option, Some, None, option_map}

-- the bytes of a file, and whether the disk has all of them
pub record Held : Type 0 where
  pub bytes : List ℕ
  pub on_disk : Bool

-- the file that a name leads to, if it leads to one; what else it has led to, the latest first; and
-- how many of these the disk may still have
pub record Entry : Type 0 where
  pub leads : Option ℕ
  pub before : List (Option ℕ)
  pub unsure : ℕ

pub record Disk : Type 0 where
  pub names : List ℕ → Entry
  pub files : ℕ → Held

-- what a reader of this name finds
abbrev pub seen : Disk → List ℕ → Option (List ℕ)
seen d name = option_map (λ k. (d.files k).bytes) (d.names name).leads

abbrev pub WasOneOf : List (Option ℕ) → Option ℕ → Type 0
WasOneOf [] target = ⊥
WasOneOf (first ∷ rest) target = (target ≡ first) ⊎ WasOneOf rest target

-- what a name may lead to after a lost power: what it leads to, or has led to since its folder was
-- last synced
abbrev pub MayLead : Entry → Option ℕ → Type 0
MayLead e target = (target ≡ e.leads) ⊎ WasOneOf (take e.unsure e.before) target

-- what a file may have after a lost power: its bytes, if the disk had them all; else anything
abbrev pub MayHave : Held → List ℕ → Type 0
MayHave file bytes = file.on_disk ≡ true → bytes ≡ file.bytes

-- what may be found at a name after a lost power, each name for itself
abbrev pub MayLeave : Disk → List ℕ → Option (List ℕ) → Type 0
MayLeave d name None = MayLead (d.names name) None
MayLeave d name (Some bytes) =
    (k : ℕ) × MayLead (d.names name) (Some k) × MayHave (d.files k) bytes

-- the name leads to the file, or has led to it
abbrev pub HasHad : Entry → ℕ → Type 0
HasHad e k = (Some k ≡ e.leads) ⊎ WasOneOf e.before (Some k)

-- it leads there from now on
abbrev pub led_to : Option ℕ → Entry → Entry
led_to target e = record { leads = target; before = e.leads ∷ e.before; unsure = e.unsure + 1 }

-- the disk has the name as it is
abbrev pub confirmed : Entry → Entry
confirmed e = record e { unsure = 0 }

-- each file has what it had
abbrev pub FilesStay : Disk → Disk → Type 0
FilesStay old new = (k : ℕ) → new.files k ≡ old.files k

-- nothing but this file is touched
pub record Touches (k : ℕ) (old new : Disk) : Type 0 where
  pub names : (name : List ℕ) → new.names name ≡ old.names name
  pub others : (j : ℕ) → j ≢ k → new.files j ≡ old.files j

-- the name, which led nowhere, leads to an empty file that no name has led to, and that was nothing
-- before; nothing else is touched
pub record Creates (name : List ℕ) (k : ℕ) (old new : Disk) : Type 0 where
  pub free : (old.names name).leads ≡ None
  pub fresh : (other : List ℕ) → HasHad (old.names other) k → ⊥
  pub unused : old.files k ≡ record { bytes = []; on_disk = false }
  pub here : new.names name ≡ led_to (Some k) (old.names name)
  pub elsewhere : (other : List ℕ) → other ≢ name → new.names other ≡ old.names other
  pub others : (j : ℕ) → j ≢ k → new.files j ≡ old.files j
  pub empty : new.files k ≡ record { bytes = []; on_disk = false }

-- a file gets these bytes at its end
pub record Grows (k : ℕ) (more : List ℕ) (old new : Disk) : Type 0 where
  pub file : new.files k ≡ record { bytes = (old.files k).bytes ++ more; on_disk = false }
  pub touches : Touches k old new

-- a file has what it had, and behind that nobody knows what
pub record Spoils (k : ℕ) (old new : Disk) : Type 0 where
  pub rest : List ℕ
  pub bytes : (new.files k).bytes ≡ (old.files k).bytes ++ rest
  pub touches : Touches k old new

-- the disk has all bytes of the file
pub record Syncs (k : ℕ) (old new : Disk) : Type 0 where
  pub file : new.files k ≡ record { bytes = (old.files k).bytes; on_disk = true }
  pub touches : Touches k old new

-- a name is taken from a file and given to another's
pub record Renames (source target : List ℕ) (old new : Disk) : Type 0 where
  pub taken : new.names source ≡ led_to None (old.names source)
  pub given : new.names target ≡ led_to (old.names source).leads (old.names target)
  pub elsewhere : (other : List ℕ) → other ≢ source → other ≢ target
      → new.names other ≡ old.names other
  pub files : FilesStay old new

-- a name is removed
pub record Unlinks (name : List ℕ) (old new : Disk) : Type 0 where
  pub here : new.names name ≡ led_to None (old.names name)
  pub elsewhere : (other : List ℕ) → other ≢ name → new.names other ≡ old.names other
  pub files : FilesStay old new

-- the name, which led nowhere, leads to a folder that no name has led to
pub record MakesFolder (name : List ℕ) (old new : Disk) : Type 0 where
  pub number : ℕ
  pub creates : Creates name number old new

-- an empty file that no name has led to, and that was nothing before, is made in the folder f,
-- whose names the disk need not have; which these are is not said
pub record CreatesWithin (f k : ℕ) (old new : Disk) : Type 0 where
  pub fresh : (other : List ℕ) → HasHad (old.names other) k → ⊥
  pub unused : old.files k ≡ record { bytes = []; on_disk = false }
  pub names : (name : List ℕ) → new.names name ≡ old.names name
  pub others : (j : ℕ) → j ≢ f → j ≢ k → new.files j ≡ old.files j
  pub empty : new.files k ≡ record { bytes = []; on_disk = false }
  pub unsure : (new.files f).on_disk ≡ false

-- a name in the folder f is removed
pub record UnlinksWithin (f : ℕ) (old new : Disk) : Type 0 where
  pub unsure : (new.files f).on_disk ≡ false
  pub touches : Touches f old new

-- the disk has the names of one folder as they are; of the other names, whether it has them is not
-- said
pub record Confirms (is_in : List ℕ → Bool) (old new : Disk) : Type 0 where
  pub here : (name : List ℕ) → is_in name ≡ true
      → new.names name ≡ confirmed (old.names name)
  pub elsewhere : (name : List ℕ)
      → (new.names name ≡ confirmed (old.names name)) ⊎ (new.names name ≡ old.names name)
  pub files : FilesStay old new

-- a name is as before, also after a lost power, and so is each file that it has led to
pub record Spares (old new : Disk) (name : List ℕ) : Type 0 where
  pub entry : new.names name ≡ old.names name
  pub files : (k : ℕ) → HasHad (old.names name) k → new.files k ≡ old.files k

-- each name but this one is as before
pub record OnlyTouches (name : List ℕ) (old new : Disk) : Type 0 where
  pub elsewhere : (other : List ℕ) → other ≢ name → Spares old new other
