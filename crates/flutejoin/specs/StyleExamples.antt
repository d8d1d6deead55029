-- What `gaps` prints in each style, computed from the definitions.
use Rattle.std.specs.Prelude.{◌≡◌, refl, codes, true, false, List, [], ◌∷◌, ◌++◌, Bool}
use Rattle.std.specs.Prelude.{Some, None}
use Rattle.std.specs.Fmt.{digits}
use Rattle.flute_parts.specs.Information.{information}
use Rattle.flute_parts.specs.Session.{session}
use Rattle.flute_parts.specs.declared.object_key.ObjectName.TheVariants.{File}
use Rattle.flute_store.specs.declared.gap.Reason.TheVariants.{Missing, Conflicting}
use Rattle.flute_store.specs.declared.status.Status.TheVariants.{ConflictingInformation}
use Rattle.flute_store.specs.declared.status.Status.TheVariants.{NoInformation, Partial, Whole}
use Rattle.flutejoin.specs.Lines.{gap_line, status_line, unplaced_line}
use Rattle.flutejoin.specs.Styles.{object_line_in, passes_check, printed, told_lines}
use Rattle.flutejoin.specs.Sums.{by_session, sums_line}
use Rattle.flutejoin.specs.Told.{Told}
use Rattle.flutejoin.specs.declared.lines.form.Form.TheVariants.{Plain}
use Rattle.flutejoin.specs.declared.lines.style.Style.{Style}

-- files 1 and 2 of session 7, and file 1 of session 8, of the sender 0
abbrev whole : Told
whole = record {
  key = record { session = session 0 7; object = File 1 };
  status = Whole 5;
  info = Some (information 5 5 1);
  gaps = [];
  bytes = Some (codes "ABCDE");
  conflicts = 0;
}

abbrev partial : Told
partial = record {
  key = record { session = session 0 7; object = File 2 };
  status = Partial 2 1 0;
  info = Some (information 75 10 4);
  gaps =
      record { sbn = 0; first = 1; last = 2; reason = Missing }
      ∷ record { sbn = 0; first = 3; last = 3; reason = Conflicting } ∷ [];
  bytes = None;
  conflicts = 1;
}

abbrev conflict : Told
conflict = record {
  key = record { session = session 0 8; object = File 1 };
  status = ConflictingInformation;
  info = None;
  gaps = [];
  bytes = None;
  conflicts = 0;
}

-- a whole object, and one without information, with a conflict that no gap has
abbrev beyond : Told
beyond = record whole { conflicts = 1 }

abbrev unknown : Told
unknown = record {
  key = record { session = session 0 8; object = File 2 };
  status = NoInformation;
  info = None;
  gaps = [];
  bytes = None;
  conflicts = 2;
}

abbrev objects : List Told
objects = whole ∷ partial ∷ conflict ∷ []

abbrev style : Bool → Bool → Style
style summary conflicts =
    record { check = true; summary = summary; conflicts = conflicts; ranges = false; form = Plain }

pub plain : printed (style false false) objects
    ≡ codes "session 7 object 1 whole 5\n"
    ++ codes "session 7 object 2 partial missing 2 conflicting 1 misfit 0\n"
    ++ codes "gap 0/1-2 missing\n" ++ codes "gap 0/3-3 conflicting\n"
    ++ codes "session 8 object 1 conflicting information\n"
unfolding digits printed told_lines object_line_in status_line gap_line
plain = refl

pub conflicts : printed (style false true) objects
    ≡ codes "session 7 object 2 partial missing 2 conflicting 1 misfit 0\n"
    ++ codes "gap 0/3-3 conflicting\n" ++ codes "session 8 object 1 conflicting information\n"
unfolding digits printed told_lines object_line_in status_line gap_line
conflicts = refl

pub summary : printed (style true false) objects
    ≡ codes "session 7 objects 2 whole 1 partial 1 missing 2 conflicting 1 misfit 0 unknown 0\n"
    ++ codes "session 8 objects 1 whole 0 partial 0 missing 0 conflicting 0 misfit 0 unknown 1\n"
unfolding digits printed by_session sums_line
summary = refl

-- the whole object is not listed
pub conflicts_of_sessions : printed (style true true) objects
    ≡ codes "session 7 objects 1 whole 0 partial 1 missing 2 conflicting 1 misfit 0 unknown 0\n"
    ++ codes "session 8 objects 1 whole 0 partial 0 missing 0 conflicting 0 misfit 0 unknown 1\n"
unfolding digits printed by_session sums_line
conflicts_of_sessions = refl

pub unplaced : printed (style false true) (beyond ∷ unknown ∷ [])
    ≡ codes "session 7 object 1 whole 5 unplaced conflicting 1\n"
    ++ codes "session 8 object 2 no information unplaced conflicting 2\n"
unfolding digits printed told_lines object_line_in unplaced_line
unplaced = refl

pub unplaced_in_sums : printed (style true true) (beyond ∷ unknown ∷ [])
    ≡ codes "session 7 objects 1 whole 1 partial 0 missing 0 conflicting 1 misfit 0 unknown 0\n"
    ++ codes "session 8 objects 1 whole 0 partial 0 missing 0 conflicting 2 misfit 0 unknown 1\n"
unfolding digits printed by_session sums_line
unplaced_in_sums = refl

-- a conflict that no gap has does not pass
pub unplaced_checked : (passes_check (style false true) (beyond ∷ []) ≡ false)
    × (passes_check (style false true) (unknown ∷ []) ≡ false)
    × (passes_check (style false false) (beyond ∷ []) ≡ true)
unplaced_checked = (refl, refl, refl)

pub checked : (passes_check (style false false) objects ≡ false)
    × (passes_check (style false false) (whole ∷ []) ≡ true)
    × (passes_check (style false true) (whole ∷ []) ≡ true)
    × (passes_check (style false true) (partial ∷ []) ≡ false)
checked = (refl, refl, refl, refl)
