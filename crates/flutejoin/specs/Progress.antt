-- What a walk tells of an object until it ends.
use Rattle.std.specs.Prelude.{◌≡◌, ℕ, List, [], ◌∷◌, ◌++◌, Option, Some, None, IfSome, option_map}
use Rattle.std.specs.Prelude.{take}
use Rattle.std.specs.Borrow.{Bor}
use Rattle.flute_parts.specs.Information.{Information}
use Rattle.flute_parts.specs.Facts.{IsRising}
use Rattle.flute_parts.specs.declared.key.Key.{Key}
use Rattle.flute_parts.specs.declared.symbol_id.SymbolId.{SymbolId}
use Rattle.flute_parts.specs.declared.fact.Fact.{Fact}
use Rattle.flute_store.specs.declared.gap.Gap.{Gap}
use Rattle.flute_store.specs.Extract.{IsNotWhole}
use Rattle.flute_store.specs.Scan.{Scanned, Follows}
use Rattle.flutejoin.specs.Listing.{Passes}
use Rattle.flutejoin.specs.Told.{Told, told_of}

-- what was told of an object with one value of its information
pub record Progress : Type 0 where
  pub key : Key
  pub info : Information
  -- its gaps so far
  pub given : List Gap
  -- the values of its symbols so far, if each of its partition is held as one fitting value
  pub bytes : Option (List ℕ)

-- an object of which nothing was given or written yet
abbrev pub at_start : Key → Information → Progress
at_start key info = record { key = key; info = info; given = []; bytes = Some [] }

-- the bytes of a symbol; none if it is in conflict
abbrev pub value_in : Option (Bor (List ℕ)) → List ℕ
value_in None = []
value_in (Some bytes) = bytes.now

-- after a symbol that fits: its bytes are added, as long as no gap came
abbrev pub with_value : List ℕ → Progress → Progress
with_value value p = record p { bytes = option_map (λ bytes. bytes ++ value) p.bytes }

-- a symbol of the partition is not held as one fitting value
abbrev pub lacking : Progress → Progress
lacking p = record p { bytes = None }

-- after a gap: it is given, and the object is not whole
abbrev pub with_gap : Gap → Progress → Progress
with_gap gap p = record p { given = p.given ++ gap ∷ []; bytes = None }

-- what a scan tells
abbrev pub progress_of : Scanned → Progress
progress_of s = record { key = s.key; info = s.info; given = s.given; bytes = s.bytes }

-- ---- of an object that may have no information, or two values of it

-- the information of the object that a walk is at
abbrev pub info_so_far : Option Progress → Option Information
info_so_far None = None
info_so_far (Some p) = Some p.info

-- the gaps that were given of that object
abbrev pub gaps_so_far : Option Progress → List Gap
gaps_so_far None = []
gaps_so_far (Some p) = p.given

-- the values, cut to the length of the object
abbrev pub bytes_so_far : Option Progress → Option (List ℕ)
bytes_so_far None = None
bytes_so_far (Some p) = option_map (λ bytes. take p.info.transfer_length bytes) p.bytes

-- all that is reported of the object was told
pub record EndsAs (t : Told) (progress : Option Progress) : Type 0 where
  pub key : IfSome progress (λ p. t.key ≡ p.key)
  pub info : t.info ≡ info_so_far progress
  pub gaps : t.gaps ≡ gaps_so_far progress
  pub bytes : t.bytes ≡ bytes_so_far progress

-- the report of an object by some facts
abbrev pub IsTold : Told → Type 0
IsTold t = (F : List Fact) × (t ≡ told_of F t.key)

-- ---- by a scan

-- the object has a gap
abbrev pub HasGap : List Fact → Key → Type 0
HasGap F key = (first : SymbolId) × IsNotWhole F key first

-- the object has a gap in any facts that contain these in a row, whatever follows them
abbrev pub IsBroken : Key → List Fact → Type 0
IsBroken key mine = (F before rest : List Fact) → F ≡ before ++ (mine ++ rest) → IsRising F
    → HasGap F key

-- what comes next was passed, or all gaps were given; and if not all symbols so far are held as one
-- fitting value, the object has a gap
pub record PassesOn (s : Scanned) (next : Option (SymbolId × Option (Bor (List ℕ))))
    (t : Scanned) : Type 0 where
  pub passed : Passes s next t
  pub info : t.info ≡ s.info
  pub broken : t.bytes ≡ None → (F : List Fact) → Follows s next F → HasGap F s.key
