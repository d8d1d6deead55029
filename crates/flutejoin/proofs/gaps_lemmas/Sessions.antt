-- gaps --summary: objects cut by their sessions, and the sums of each session (specs/Sums).
use Rattle.std.proofs.lemmas.Grind.{common_steps}
use Rattle.std.proofs.Common.{rules}
use Rattle.std.proofs.Common.{◌≡◌, ◌≤◌, ◌+◌, ℕ, Bool, true, false, List, [], ◌∷◌, ◌++◌}
use Rattle.std.proofs.Common.{Option, Some, if◌then◌else◌, refl, sym, ap, ◌∙◌, subst, arith}
use Rattle.std.proofs.Common.{append_assoc}
use Rattle.std.specs.Prelude.{IfSome}
use Rattle.std.specs.Io.KnownBytes.{Appends}
use Rattle.std.specs.List.{flat_map, sum_by, AllByRecursion}
use Rattle.std.proofs.lemmas.Grind.{flat_map-append}
use Rattle.std.proofs.lemmas.List.Sums.{sum_by-append}
use Rattle.flute_parts.specs.Session.{Session}
use Rattle.flute_parts.specs.Order.{same_session}
use Rattle.flutejoin.specs.Listing.{AreSumsWithin, AreSummed, AreSummedUp, BeginsSession, HasSums}
use Rattle.flutejoin.specs.Listing.{Knows, last_line}
use Rattle.flutejoin.specs.Sums.{AddsObject, AreWithin, IsNone, by_session}
use Rattle.flutejoin.specs.Sums.{in_front, misfit_in, missing_in, partial_in, session_line}
use Rattle.flutejoin.specs.Sums.{sums_line, sums_of, unknown_in, whole_in}
use Rattle.flutejoin.specs.Told.{Told}
use Rattle.flutejoin.specs.declared.gaps.session_sums.SessionSums.{SessionSums}
use Rattle.flutejoin.specs.declared.lines.form.Form.{Form}
use Rattle.flutejoin.proofs.gaps_lemmas.MovedAside.{knows_more}

-- ---- objects of one session, and of the next

abbrev Parts : Type 0
Parts = List (Told × List Told)

abbrev AreOf : Session → List Told → Type 0
AreOf s ts = AllByRecursion (λ (t : Told). t.key.session ≡ s) ts

same_true : (a b : Session) → a ≡ b → same_session a b ≡ true
same_true a b e = search rules

other_false : (a b : Session) → (a ≡ b → ⊥) → same_session a b ≡ false
other_false a b h = search rules

of_more : (s : Session) (ts : List Told) (t : Told) → AreOf s ts → t.key.session ≡ s
    → AreOf s (ts ++ t ∷ [])
of_more = grind (arith, common_steps)

-- the parts of objects begin with the first of these
pub record Begins (t : Told) (ts : List Told) : Type 0 where
  pub others : List Told
  pub parts : List (Told × List Told)
  pub are : by_session (t ∷ ts) ≡ (t, others) ∷ parts

in_front_begins : (t : Told) (parts : Parts) → (others : List Told) × ((rest : Parts)
    × (in_front t parts ≡ (t, others) ∷ rest))
in_front_begins t [] = ([], ([], refl))
in_front_begins t ((u, us) ∷ parts) =
    let P : Bool → Type 0 = λ b. (others : List Told) × ((rest : Parts) ×
    ((if b then (t, u ∷ us) ∷ parts else ((t, []) ∷ (u, us) ∷ parts)) ≡ (t, others) ∷ rest)) in
    let cases : (b : Bool) → P b = λ b. elim b as P [
      | true ↦ (u ∷ us, (parts, refl))
      | false ↦ ([], ((u, us) ∷ parts, refl))
    ] in cases (same_session t.key.session u.key.session)

begins : (t : Told) (ts : List Told) → Begins t ts
unfolding by_session
begins t ts =
    let h = in_front_begins t _ in
    record { others = h.0; parts = h.1.0; are = h.1.1 }

-- what follows a part stays as it is
in_front_before : (t : Told) (p : Told × List Told) (parts more : Parts)
    → in_front t ((p ∷ parts) ++ more) ≡ in_front t (p ∷ parts) ++ more
in_front_before = search rules

-- objects of one session are one part
pub one_part : (t : Told) (ts : List Told) → AreOf t.key.session ts
    → by_session (t ∷ ts) ≡ (t, ts) ∷ []
unfolding by_session
one_part t [] a = refl
one_part t (u ∷ us) a =
    let of_u : (xs : List Told) → AreOf t.key.session xs → AreOf u.key.session xs = λ xs. subst
    (λ s. AreOf s xs) (sym a.0) in
    let rest = one_part u us (of_u us a.1) in
    let same : same_session t.key.session u.key.session ≡ true = search rules in
    ap (in_front t) rest ∙ ap (λ b. if b then (t, u ∷ us) ∷ [] else ((t, []) ∷ (u, us) ∷ [])) same

-- objects of another session begin a part
pub next_part : (s : Session) (t : Told) (ts : List Told) (next : Told) (more : List Told)
    → t.key.session ≡ s → AreOf s ts → (next.key.session ≡ s → ⊥)
    → by_session ((t ∷ ts) ++ next ∷ more) ≡ by_session (t ∷ ts) ++ by_session (next ∷ more)
unfolding by_session
next_part s t [] next more e a h = search rules
next_part s t (u ∷ us) next more e a h = search (rules, next_part s u us next more a.0 a.1 h) steps
    400000

-- and those before stay as they are
pub apart_from : (before : List Told) (t : Told) (ts : List Told) (next : Told) (more : List Told) →
    AreOf t.key.session ts → (next.key.session ≡ t.key.session → ⊥) → by_session
    ((before ++ t ∷ ts) ++ next ∷ more) ≡ by_session (before ++ t ∷ ts) ++ by_session (next ∷ more)
unfolding by_session
apart_from [] t ts next more a h = next_part _ t _ _ _ refl a h
apart_from (u ∷ []) t ts next more a h = search (rules, apart_from [] t ts next more a h) steps
    400000
apart_from (u ∷ v ∷ before) t ts next more a h = search
    (rules, apart_from (v ∷ before) t ts next more a h)

-- ---- sums

sum_one : (f : Told → ℕ) (t : Told) → sum_by f (t ∷ []) ≡ f t
sum_one f t = omega arith

sum_more : (f : Told → ℕ) (ts : List Told) (t : Told) (old new : ℕ) → old ≡ sum_by f ts
    → new ≡ old + f t → new ≡ sum_by f (ts ++ t ∷ [])
sum_more f ts t old new o n = search (rules, sum_one, sum_by-append)

-- the sums of the first object of a session
pub sums_one : (t : Told) (none sums : SessionSums) → IsNone t.key.session none
    → AddsObject t.status t.conflicts none sums → sums ≡ sums_of t []
sums_one t none sums n a = search rules

-- and of one more
pub sums_more : (t : Told) (ts : List Told) (u : Told) (old sums : SessionSums)
    → old ≡ sums_of t ts → AddsObject u.status u.conflicts old sums → sums ≡ sums_of t (ts ++ u ∷ [])
sums_more t ts u old sums o a =
    let more : (f : Told → ℕ) (x new : ℕ) → x ≡ sum_by f (t ∷ ts) → new ≡ x + f u → new ≡ sum_by f
    (t ∷ (ts ++ u ∷ [])) = λ f x new e n. sum_more f (t ∷ ts) u x _ e n in
    let session = a.session ∙ ap (λ s. s.session) o in
    let objects = more (λ u. 1) old.objects sums.objects (ap (λ s. s.objects) o) a.objects in
    let whole = more (λ u. whole_in u.status) old.whole sums.whole (ap (λ s. s.whole) o) a.whole in
    let partial = more (λ u. partial_in u.status) old.partial sums.partial (ap (λ s. s.partial) o)
    a.partial in
    let missing = more (λ u. missing_in u.status) old.missing sums.missing (ap (λ s. s.missing) o)
    a.missing in
    let conflicting = more (λ u. u.conflicts) old.conflicting sums.conflicting
    (ap (λ s. s.conflicting) o) a.conflicting in
    let misfit = more (λ u. misfit_in u.status) old.misfit sums.misfit (ap (λ s. s.misfit) o)
    a.misfit in
    let unknown = more (λ u. unknown_in u.status) old.unknown sums.unknown (ap (λ s. s.unknown) o)
    a.unknown in λ i. record {
      session = session i;
      objects = objects i;
      whole = whole i;
      partial = partial i;
      missing = missing i;
      conflicting = conflicting i;
      misfit = misfit i;
      unknown = unknown i;
    }

-- ---- the sums of the last session

pub first_summed : {form : Form} (objects : List Told) (lines : List ℕ) (t : Told) (sums : SessionSums)
    → objects ≡ [] → lines ≡ [] → sums ≡ sums_of t [] → HasSums form (objects ++ t ∷ []) lines sums
unfolding by_session
first_summed objects lines t sums e n s = search rules

pub more_summed : {form : Form} (objects : List Told) (lines : List ℕ) (t : Told) (old sums : SessionSums)
    → HasSums form objects lines old → old.session ≡ t.key.session → AddsObject t.status t.conflicts old sums
    → HasSums form (objects ++ t ∷ []) lines sums
more_summed _ _ t old sums h e a = record {
  before = h.before;
  first = h.first;
  others = h.others ++ t ∷ [];
  all = cc (append_assoc h.before (h.first ∷ h.others) (t ∷ []));
  same = of_more _ _ t h.same (cc);
  apart = h.apart;
  lines_are = h.lines_are;
  sums_are = sums_more h.first h.others t _ _ h.sums_are a;
}

-- the lines of all sessions
pub all_summed : (form : Form) (objects : List Told) (lines : List ℕ) (sums : Option SessionSums) → AreSummed
    form objects lines sums
    → lines ++ last_line form sums ≡ flat_map (session_line form) (by_session objects)
unfolding by_session
all_summed form x0 x1 x2 x3 = search (rules, one_part, flat_map-append)

-- an object of the next session
pub next_summed : {form : Form} (objects : List Told) (lines : List ℕ) (t : Told) (old sums : SessionSums)
    → HasSums form objects lines old → (old.session ≡ t.key.session → ⊥) → sums ≡ sums_of t []
    → HasSums form (objects ++ t ∷ []) (lines ++ sums_line form old) sums
next_summed {form} objects lines t old _ h apart s = record {
  before = objects;
  first = t;
  others = [];
  all = refl;
  same = tt;
  apart = λ more. rw h.all
      (apart_from _ _ _ t _ h.same (λ e. apart (ap (λ x. x.session) h.sums_are ∙ sym e)));
  lines_are = all_summed _ _ _ (Some old) h;
  sums_are = s;
}

-- ---- how large they are

pub within_more : (m n : ℕ) (sums : SessionSums) → m ≤ n → AreWithin m sums → AreWithin n sums
within_more m n sums l h = search rules

pub few_more : (m n : ℕ) (sums : Option SessionSums) → m ≤ n → AreSumsWithin m sums → AreSumsWithin n sums
few_more = search rules

-- ---- and what was put aside

abbrev pub IsOfOthers : Session → Option SessionSums → Type 0
IsOfOthers session old = IfSome old (λ (sums : SessionSums). sums.session ≡ session → ⊥)

module _ (form : Form) where
  begun_sums : (objects : List Told) (lines : List ℕ) (t : Told) (old new : Option SessionSums)
      → AreSummed form objects lines old → IsOfOthers t.key.session old
      → BeginsSession t.key.session t.status t.conflicts new
      → AreSummed form (objects ++ t ∷ []) (lines ++ last_line form old) new
  begun_sums = search (rules, first_summed, sums_one, next_summed) steps 400000

pub begun_known : {known : Bool} (form : Form) (objects : List Told) {lines : List ℕ} (t : Told)
    (old : Option SessionSums) {new : Option SessionSums} {s s' : Option (List ℕ)}
    → AreSummed form objects lines old × IsOfOthers t.key.session old → Knows known s lines
    → BeginsSession t.key.session t.status t.conflicts new → Appends s s' (last_line form old)
    → AreSummedUp known form (objects ++ t ∷ []) s' new
begun_known form objects {lines} t old {new} h k b a = record {
  lines = lines ++ last_line form old;
  lines_known = knows_more _ k a;
  summed = begun_sums _ _ _ t _ _ h.0 h.1 b;
}

pub more_known : {known : Bool} {form : Form} {objects : List Told} {lines : List ℕ} (t : Told)
    {old sums : SessionSums} {s : Option (List ℕ)} → HasSums form objects lines old
    → old.session ≡ t.key.session → AddsObject t.status t.conflicts old sums → Knows known s lines
    → AreSummedUp known form (objects ++ t ∷ []) s (Some sums)
more_known {known} {form} {objects} {lines} t {old} {sums} {s} h e a k = search (rules, more_summed) steps
    400000
