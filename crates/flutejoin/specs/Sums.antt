-- How much is held of the objects of a session together.
use Rattle.std.specs.Prelude.{◌≡◌, ℕ, ◌+◌, ◌*◌, ◌^◌, ◌≤◌, List, [], ◌∷◌, ◌++◌, length, codes}
use Rattle.std.specs.Prelude.{decimal}
use Rattle.std.specs.Prelude.{if◌then◌else◌}
use Rattle.std.specs.List.{sum_by}
use Rattle.flute_parts.specs.Session.{Session}
use Rattle.flute_parts.specs.Order.{same_session}
use Rattle.flute_store.specs.declared.status.Status.{Status}
use Rattle.flute_store.specs.declared.status.Status.TheVariants.{NoInformation, Partial, Whole}
use Rattle.flute_store.specs.declared.status.Status.TheVariants.{ConflictingInformation}
use Rattle.flutejoin.specs.Json.{json_line}
use Rattle.flutejoin.specs.JsonGaps.{json_session}
use Rattle.flutejoin.specs.Lines.{line, source_words}
use Rattle.flutejoin.specs.Told.{Told}
use Rattle.flutejoin.specs.declared.lines.form.Form.{Form}
use Rattle.flutejoin.specs.declared.lines.form.Form.TheVariants.{Plain, Json}
use Rattle.flutejoin.specs.declared.limits.TheConstants.{MAX_ENTRIES}
use Rattle.flutejoin.specs.declared.gaps.session_sums.SessionSums.{SessionSums}

-- ---- what an object adds to each sum

-- what a status adds to the number of whole objects
abbrev pub whole_in : Status → ℕ
whole_in (Whole length) = 1
whole_in _ = 0

-- what a status adds to the number of partial objects
abbrev pub partial_in : Status → ℕ
partial_in (Partial missing conflicting misfit) = 1
partial_in _ = 0

-- what a status adds to the number of missing symbols
abbrev pub missing_in : Status → ℕ
missing_in (Partial missing conflicting misfit) = missing
missing_in _ = 0

-- what a status adds to the number of misfit symbols
abbrev pub misfit_in : Status → ℕ
misfit_in (Partial missing conflicting misfit) = misfit
misfit_in _ = 0

-- without information, or with two values of it
abbrev pub unknown_in : Status → ℕ
unknown_in NoInformation = 1
unknown_in ConflictingInformation = 1
unknown_in _ = 0

-- ---- sessions

-- the sums of a session, of its first object and the others
abbrev pub sums_of : Told → List Told → SessionSums
sums_of t ts = record {
  session = t.key.session;
  objects = sum_by (λ (u : Told). 1) (t ∷ ts);
  whole = sum_by (λ (u : Told). whole_in u.status) (t ∷ ts);
  partial = sum_by (λ (u : Told). partial_in u.status) (t ∷ ts);
  missing = sum_by (λ (u : Told). missing_in u.status) (t ∷ ts);
  conflicting = sum_by (λ (u : Told). u.conflicts) (t ∷ ts);
  misfit = sum_by (λ (u : Told). misfit_in u.status) (t ∷ ts);
  unknown = sum_by (λ (u : Told). unknown_in u.status) (t ∷ ts);
}

unfoldable pub sums_line : Form → SessionSums → List ℕ
sums_line Plain s =
    line (source_words s.session.sender ++ codes "session " ++ decimal s.session.tsi
    ++ (codes " objects " ++ decimal s.objects) ++ (codes " whole " ++ decimal s.whole)
    ++ (codes " partial " ++ decimal s.partial) ++ (codes " missing " ++ decimal s.missing)
    ++ (codes " conflicting " ++ decimal s.conflicting) ++ (codes " misfit " ++ decimal s.misfit)
    ++ (codes " unknown " ++ decimal s.unknown))
sums_line Json s =
    json_line (json_session s.session ++ (codes ",\"objects\":" ++ decimal s.objects)
    ++ (codes ",\"whole\":" ++ decimal s.whole) ++ (codes ",\"partial\":" ++ decimal s.partial)
    ++ (codes ",\"missing\":" ++ decimal s.missing)
    ++ (codes ",\"conflicting\":" ++ decimal s.conflicting)
    ++ (codes ",\"misfit\":" ++ decimal s.misfit) ++ (codes ",\"unknown\":" ++ decimal s.unknown))

-- an object in front of others that are cut by their sessions
abbrev pub in_front : Told → List (Told × List Told) → List (Told × List Told)
in_front t [] = (t, []) ∷ []
in_front t ((u, us) ∷ parts) =
    if same_session t.key.session u.key.session then (t, u ∷ us) ∷ parts
    else ((t, []) ∷ (u, us) ∷ parts)

-- objects in the order of their keys, cut into those of each session
unfoldable pub by_session : List Told → List (Told × List Told)
by_session [] = []
by_session (t ∷ ts) = in_front t (by_session ts)

-- the line of a session
abbrev pub session_line : Form → Told × List Told → List ℕ
session_line form part = sums_line form (sums_of part.0 part.1)

-- ---- sums as objects are added

-- the sums of a session before any object
pub record IsNone (session : Session) (sums : SessionSums) : Type 0 where
  pub session_is : sums.session ≡ session
  pub objects : sums.objects ≡ 0
  pub whole : sums.whole ≡ 0
  pub partial : sums.partial ≡ 0
  pub missing : sums.missing ≡ 0
  pub conflicting : sums.conflicting ≡ 0
  pub misfit : sums.misfit ≡ 0
  pub unknown : sums.unknown ≡ 0

-- the sums after an object of this status, with so many conflicts
pub record AddsObject (status : Status) (conflicts : ℕ) (old new : SessionSums) : Type 0 where
  pub session : new.session ≡ old.session
  pub objects : new.objects ≡ old.objects + 1
  pub whole : new.whole ≡ old.whole + whole_in status
  pub partial : new.partial ≡ old.partial + partial_in status
  pub missing : new.missing ≡ old.missing + missing_in status
  pub conflicting : new.conflicting ≡ old.conflicting + conflicts
  pub misfit : new.misfit ≡ old.misfit + misfit_in status
  pub unknown : new.unknown ≡ old.unknown + unknown_in status

-- none is above what so many objects can add
pub record AreWithin (n : ℕ) (sums : SessionSums) : Type 0 where
  pub objects : sums.objects ≤ n * 2 ^ 64
  pub whole : sums.whole ≤ n * 2 ^ 64
  pub partial : sums.partial ≤ n * 2 ^ 64
  pub missing : sums.missing ≤ n * 2 ^ 64
  pub conflicting : sums.conflicting ≤ n * 2 ^ 64
  pub misfit : sums.misfit ≤ n * 2 ^ 64
  pub unknown : sums.unknown ≤ n * 2 ^ 64

-- there may be one more
abbrev pub CanAddObject : SessionSums → Type 0
CanAddObject sums = (n : ℕ) × (n ≤ MAX_ENTRIES) × AreWithin n sums
