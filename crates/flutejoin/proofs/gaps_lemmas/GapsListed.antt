-- GapLines: the lines that were put aside as a walk told of objects (specs/GapLines).
use Rattle.std.proofs.Common.{◌≡◌, ℕ, ◌+◌, Bool, true, List, [], ◌∷◌, ◌++◌, Option, Some, None, Result}
use Rattle.std.proofs.Common.{Ok, Err, length, length-append, subst, refl, arith}
use Rattle.std.proofs.Common.{◌⊎◌, inl, inr}
use Rattle.std.specs.Prelude.{OnOk}
use Rattle.std.specs.Io.KnownBytes.{Appends}
use Rattle.flute_parts.specs.declared.device.DeviceFault.{DeviceFault}
use Rattle.flute_parts.specs.declared.fact.Fact.{Fact}
use Rattle.flutejoin.specs.GapLines.{HasLines}
use Rattle.flutejoin.specs.Gaps.{ListsJournal}
use Rattle.flutejoin.specs.Limits.{Limits}
use Rattle.flutejoin.specs.Listing.{AreSumsWithin, ArePut, Knows, last_line}
use Rattle.flutejoin.specs.Styles.{HasNoStray, are_whole, gap_lines, printed}
use Rattle.flutejoin.specs.Told.{Told}
use Rattle.flutejoin.specs.Progress.{IsTold}
use Rattle.flutejoin.specs.declared.gaps.gap_lines.GapLines.{GapLines}
use Rattle.flutejoin.specs.declared.lines.style.Style.{Style}
use Rattle.flutejoin.proofs.gaps_lemmas.Closing.{all_printed, no_stray, none_closed}
use Rattle.flutejoin.proofs.gaps_lemmas.MovedAside.{knows_more}
use Rattle.flutejoin.proofs.gaps_lemmas.Sessions.{few_more}

pub told_no_stray : (style : Style) (t : Told) → IsTold t → HasNoStray style t
told_no_stray style t is = rw is.1 (no_stray style _ _)

-- the lines of an object and those of its gaps were moved together
module _ {A : Type 0} (written : A → Option (List ℕ)) {known : Bool} (objects : List Told)
    (t : Told) where
  pub object_lined : (old new : GapLines A) {put aside : Option (List ℕ)}
      (r : Result (Unit {0}) DeviceFault) → new.style ≡ old.style → new.ranges.last ≡ None → Knows
      known aside (gap_lines old.style t.info t.gaps) → ArePut known new.style (objects ++ t ∷ [])
      (gap_lines new.style t.info t.gaps) put new.closed × AreSumsWithin (length objects + 1)
      new.closed.sums → ((bytes : List ℕ) → aside ≡ Some bytes → OnOk r
      (Appends put (written new.lines.now) bytes × (written new.gap_lines.now ≡ Some []))) → OnOk r
      (HasLines written known (objects ++ t ∷ []) None [] new)
  object_lined _ _ (Err x) _ _ _ _ _ = tt
  object_lined old new {aside} (Ok x) same none gaps_old put moved =
      let gaps = gap_lines new.style t.info t.gaps in
      let gaps_known = rw (← same) at gaps_old in
      record {
        lines = put.0.lines ++ gaps;
        closed_are = put.0.are_closed;
        few = few_more _ _ _ (omega (arith, length-append objects (t ∷ []))) put.1;
        lines_known = λ is. knows_more _ put.0.lines_known (moved gaps (gaps_known is)).0 is;
        gaps = [];
        gaps_are = (refl, none);
        gaps_known = λ is. (moved gaps (gaps_known is)).1;
      }

-- no object yet
pub none_lined : {A : Type 0} (written : A → Option (List ℕ)) (known : Bool) (v : GapLines A)
    → v.closed.all_whole ≡ true → v.closed.sums ≡ None → v.ranges.last ≡ None
    → Knows known (written v.lines.now) [] → Knows known (written v.gap_lines.now) []
    → HasLines written known [] None [] v
none_lined _ _ v whole sums last l g = record {
  lines = [];
  closed_are = none_closed _ _ [] whole sums refl;
  few = rw sums tt;
  lines_known = l;
  gaps = [];
  gaps_are = (refl, last);
  gaps_known = g;
}

-- the lines of all objects, with the last of the sessions
pub record AllLined (style : Style) (objects : List Told) (aside : Option (List ℕ))
    (all_whole : Bool) : Type 0 where
  pub written : aside ≡ Some (printed style objects)
  pub whole : all_whole ≡ are_whole style objects

pub all_lined : {A : Type 0} (written : A → Option (List ℕ)) (style : Style) {objects : List Told}
    {v : GapLines A} (s : Option (List ℕ)) → HasLines written true objects None [] v → v.style ≡ style
    → Appends (written v.lines.now) s (last_line v.style.form v.closed.sums)
    → AllLined style objects s v.closed.all_whole
all_lined written _ {objects} {v} s h is line = rw (← is) (record {
  written = subst (λ l. s ≡ Some l) (all_printed _ _ _ _ h.closed_are)
      (knows_more _ h.lines_known line refl);
  whole = h.closed_are.all_whole;
})

-- what follows of the objects
pub lists : {most : Limits} (picks : Fact → Bool) (u : Option (List ℕ)) (P Q : List Told → Type 0)
    → ((objects : List Told) → P objects → Q objects) → ListsJournal most picks u P
    → ListsJournal most picks u Q
lists _ u P Q f h = record {
  entries = h.entries;
  journal = h.journal;
  within = h.within;
  objects = h.objects;
  told = h.told;
  so = f h.objects h.so;
}

-- what follows of the objects, unless A holds
pub unless : {most : Limits} {A : Type 0} (picks : Fact → Bool) (u : Option (List ℕ))
    (P Q : List Told → Type 0) → ((objects : List Told) → P objects → A ⊎ Q objects)
    → ListsJournal most picks u P → A ⊎ ListsJournal most picks u Q
unless {most} {A} picks u P Q f h = go (f h.objects h.so)
  where
    go : A ⊎ Q h.objects → A ⊎ ListsJournal most picks u Q
    go (inl a) = inl a
    go (inr q) = inr (record {
      entries = h.entries;
      journal = h.journal;
      within = h.within;
      objects = h.objects;
      told = h.told;
      so = q;
    })
