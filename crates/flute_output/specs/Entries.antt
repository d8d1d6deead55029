-- Two entries of a folder: the name OUT, and the file beside it whose bytes are to become OUT's.
-- They keep what OUT was, since a command whose sink is an output promises nothing of its folder.
use Rattle.std.specs.Prelude.{◌≡◌, ◌⊎◌, ℕ, Bool, true, false, List, [], ◌∷◌}
use Rattle.std.specs.Prelude.{◌++◌, Option, Some, None, IsSome, option_map, Contains, ⊤}
use Rattle.flute_output.specs.declared.output.FinishFault.{FinishFault}
use Rattle.flute_output.specs.declared.output.FinishFault.TheVariants.{Work, Write, NotOnDisk}

-- the bytes of a file, and whether the disk has all of them
pub record Stored : Type 0 where
  pub bytes : List ℕ
  pub on_disk : Bool

-- the file once its bytes are on the disk
abbrev pub safe : Stored → Stored
safe file = record file { on_disk = true }

-- what contracts see of an output's folder: OUT, and the file beside it
pub record Entries : Type 0 where
  -- the file named OUT, if there is one
  pub out : Option Stored
  -- the file beside it, if there is one
  pub beside : Option Stored
  -- bytes that were taken and are not in the file beside it yet
  pub waiting : List ℕ
  -- what OUT was when the file beside it was made
  pub found : Option Stored
  -- what OUT has been since then and is no more, the oldest first
  pub past : List (Option Stored)
  -- whether the disk has confirmed the name OUT as it is
  pub named : Bool

-- R of the entries before and after, if contracts see them; they see them always or never
abbrev pub Leads : (Entries → Entries → Type 0) → Option Entries → Option Entries → Type 0
Leads R None None = ⊤
Leads R None (Some new) = ⊥
Leads R (Some old) None = ⊥
Leads R (Some old) (Some new) = R old new

-- f was done, if contracts see the entries
abbrev pub Does : (Entries → Entries) → Option Entries → Option Entries → Type 0
Does f old new = Leads (λ before after. after ≡ f before) old new

-- an empty file is made beside OUT, also if one was there
abbrev pub created : Entries → Entries
created e = record e {
  beside = Some (record { bytes = []; on_disk = false });
  waiting = [];
  found = e.out;
  past = [];
}

-- the disk has all of the file beside OUT
abbrev pub synced : Entries → Entries
synced e = record e { beside = option_map safe e.beside }

-- the file beside OUT is named OUT, in one step
abbrev pub put_in_place : Entries → Entries
put_in_place e =
    record e { out = e.beside; beside = None; past = e.past ++ e.out ∷ []; named = false }

-- the disk has both names as they are
abbrev pub names_synced : Entries → Entries
names_synced e = record e { named = true }

-- the file beside OUT is removed
abbrev pub removed : Entries → Entries
removed e = record e { beside = None; waiting = [] }

-- the bytes of a file; none if there is no file
abbrev pub file_bytes : Option Stored → List ℕ
file_bytes None = []
file_bytes (Some s) = s.bytes

-- the bytes that were taken since the file beside OUT was made
abbrev pub taken : Entries → List ℕ
taken e = file_bytes e.beside ++ e.waiting

-- what OUT is to become: a file of these bytes, all of which the disk has
abbrev pub whole : List ℕ → Stored
whole bytes = record { bytes = bytes; on_disk = true }

-- what OUT was when the file beside it was made
abbrev pub found_in : Entries → Option Stored
found_in e = e.found

-- whether the disk has confirmed the name OUT as it is
abbrev pub named_in : Entries → Bool
named_in e = e.named

-- OUT is what it was, and was nothing else in between
pub record OutStays (old new : Entries) : Type 0 where
  pub out : new.out ≡ old.out
  pub found : new.found ≡ old.found
  pub past : new.past ≡ old.past
  pub named : new.named ≡ old.named

-- bytes are taken for the file beside OUT, behind those that were; some of them all may still wait
pub record Takes (bytes : List ℕ) (old new : Entries) : Type 0 where
  pub content : taken new ≡ taken old ++ bytes
  pub beside : IsSome old.beside → IsSome new.beside
  pub out_stays : OutStays old new

-- the file beside OUT has all that was taken
pub record Flushes (old new : Entries) : Type 0 where
  pub content : file_bytes new.beside ≡ taken old
  pub none_wait : new.waiting ≡ []
  pub beside : IsSome new.beside
  pub out_stays : OutStays old new

-- OUT is what it was when the file beside it was made, and has been nothing else since
abbrev pub IsUntouched : Entries → Type 0
IsUntouched e = (e.out ≡ e.found) × (e.past ≡ [])

-- an output that is being written: there is the file beside OUT, and OUT is untouched
pub record IsWriting (e : Entries) : Type 0 where
  pub beside : IsSome e.beside
  pub untouched : IsUntouched e

-- OUT is untouched
pub record OutIsAsFound (old new : Entries) : Type 0 where
  pub out : new.out ≡ old.found
  pub found : new.found ≡ old.found
  pub past : new.past ≡ []
  pub named : new.named ≡ old.named

-- OUT went from what it was when the file beside it was made to this file, and has been
-- nothing else since
pub record OutBecomes (file : Stored) (old new : Entries) : Type 0 where
  pub out : new.out ≡ Some file
  pub found : new.found ≡ old.found
  pub past : new.past ≡ old.found ∷ []

-- what OUT was at some moment since the file beside it was made: whoever looked, or stopped
-- the program between two calls, found this
abbrev pub WasOut : Entries → Option Stored → Type 0
WasOut e file = (file ≡ e.out) ⊎ Contains e.past file

-- what is left of a file once the power was lost: its bytes, if the disk had them all;
-- else nothing is known
abbrev pub Survives : Option Stored → Option (List ℕ) → Type 0
Survives None left = left ≡ None
Survives (Some s) left = s.on_disk ≡ true → left ≡ Some s.bytes

-- what the name OUT may be on the disk, if it was what was found when the file beside it was made:
-- what OUT is, if the disk has confirmed that; else also what it has been since
abbrev pub IsNamed : Bool → Entries → Option Stored → Type 0
IsNamed true e file = file ≡ e.out
IsNamed false e file = (file ≡ e.found) ⊎ WasOut e file

-- whatever a lost power leaves of OUT now is a file of these bytes
abbrev pub Lasts : List ℕ → Entries → Type 0
Lasts bytes e =
    (file : Option Stored) (left : Option (List ℕ)) → IsNamed e.named e file
    → Survives file left → left ≡ Some bytes

-- the disk has all bytes of the file, if there is one
abbrev pub IsSafe : Option Stored → Type 0
IsSafe None = ⊤
IsSafe (Some s) = s.on_disk ≡ true

-- At any moment since, OUT was what was found or this file. And if the disk had what was found, its
-- name and its bytes, then a lost power at any of these moments left the one or the other, whole:
-- the disk may still have the name as it was found.
pub record IsEitherAlways (file : Stored) (old e : Entries) : Type 0 where
  pub stopped : (seen : Option Stored) → WasOut e seen → (seen ≡ e.found) ⊎ (seen ≡ Some file)
  pub lost_power : old.named ≡ true → IsSafe e.found
      → (seen : Option Stored) (left : Option (List ℕ)) → (seen ≡ e.found) ⊎ WasOut e seen
      → Survives seen left → (left ≡ option_map (λ s. s.bytes) e.found) ⊎ (left ≡ Some file.bytes)

-- what a fault of finishing means for OUT
abbrev pub Ends : {E : Type 0} → FinishFault E → Entries → Entries → Type 0
Ends (Work fault) old new = OutIsAsFound old new
Ends Write old new = OutIsAsFound old new
Ends NotOnDisk old new = OutBecomes (whole (taken old)) old new

-- P of the fault of the work, if it was that
abbrev pub IfWork : {E : Type 0} → FinishFault E → (E → Type 0) → Type 0
IfWork (Work fault) P = P fault
IfWork Write P = ⊤
IfWork NotOnDisk P = ⊤
