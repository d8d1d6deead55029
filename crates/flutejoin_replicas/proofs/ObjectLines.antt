-- gaps_to: the lines of an object are those of its facts.
use Rattle.std.proofs.Common.{◌≡◌, ℕ, List, [], ◌++◌, Option, Some, Result, sym, ap, ◌∙◌}
use Rattle.std.proofs.Common.{subst}
use Rattle.std.specs.Prelude.{MatchOption}
use Rattle.std.specs.List.{flat_map}
use Rattle.std.specs.Io.KnownBytes.{Appends}
use Rattle.std.proofs.lemmas.List.{append-nil}
use Rattle.flute_parts.specs.Addresses.{info_address}
use Rattle.flute_parts.specs.Facts.{fact_at}
use Rattle.flute_parts.specs.Devices.{AppendsPart, Writes}
use Rattle.flute_parts.proofs.Public.{AppendsPart-first, Writes-behind}
use Rattle.flute_parts.specs.declared.key.Key.{Key}
use Rattle.flute_parts.specs.declared.address.Part.TheVariants.{Info as InfoPart}
use Rattle.flute_parts.specs.declared.fact.Fact.{Fact}
use Rattle.flute_store.specs.declared.gaps.GapFault.{GapFault}
use Rattle.flute_store.specs.declared.gaps.GapFault.TheVariants as faults
use Rattle.flute_store.specs.declared.status.Status.{Status}
use Rattle.flute_store.specs.GapsLeft.{GapsLeft}
use Rattle.flute_store.specs.GapAnswers.{GivesGaps, TellsGapFault}
use Rattle.flute_store.specs.Found.{IsUnheard}
use Rattle.flute_store.specs.Status.{TellsStatus}
use Rattle.flutejoin.specs.Lines.{status_line, gap_line}
use Rattle.flutejoin.specs.Objects.{status_at, gaps_at, object_lines}
use Rattle.flutejoin.proofs.Public.{status_is}

-- the gaps that are listed of an object
pub gaps_are : (F : List Fact) (key : Key) (left : GapsLeft) → GivesGaps F key left
    → left.gaps ≡ gaps_at F key (fact_at F (info_address key))
gaps_are F key left h = h.gaps_are ∙ sym (ap (gaps_at F key) h.information)

no_gaps : (F : List Fact) (key : Key) (fault : GapFault) → TellsGapFault F key fault
    → gaps_at F key (fact_at F (info_address key)) ≡ []
no_gaps F key faults.NoObject h = ap (gaps_at F key) (h InfoPart)
no_gaps F key faults.NoInformation h = ap (gaps_at F key) h.1
no_gaps F key faults.ConflictingInformation h = ap (gaps_at F key) h

-- the line of the object was written in part
pub object_part : (F : List Fact) (key : Key) (status : Status) (s t : Option (List ℕ))
    → TellsStatus F key status → AppendsPart s t (status_line key status)
    → AppendsPart s t (object_lines F key)
unfolding object_lines
object_part F key status s t h part =
    AppendsPart-first s t (status_line key (status_at F key (fact_at F (info_address key))))
    (flat_map gap_line (gaps_at F key (fact_at F (info_address key))))
    (subst (λ x. AppendsPart s t (status_line key x)) (status_is F key status h) part)

-- the line of the object's status was written
pub record StatusWritten (F : List Fact) (key : Key) (s t : Option (List ℕ)) : Type 0 where
  pub status : Status
  pub told : TellsStatus F key status
  pub line : Appends s t (status_line key status)

pub status_written : (F : List Fact) (key : Key) {s t : Option (List ℕ)}
    {found : Option Status} {status : Status} → found ≡ Some status
    → MatchOption found (IsUnheard F key) (λ x. TellsStatus F key x)
    → Appends s t (status_line key status) → StatusWritten F key s t
status_written F key {status = status} is found line =
    record {
      status = status;
      told = subst (λ (o : Option Status). MatchOption o (IsUnheard F key)
          (λ x. TellsStatus F key x)) is found;
      line = line;
    }

-- it is the line of the status that the facts give
line_at : {F : List Fact} {key : Key} {s t : Option (List ℕ)} → StatusWritten F key s t
    → Appends s t (status_line key (status_at F key (fact_at F (info_address key))))
line_at {F = F} {key = key} {s = s} {t = t} h =
    subst (λ x. Appends s t (status_line key x)) (status_is F key h.status h.told) h.line

-- the line of the object was written, and then those of its gaps
pub object_written : {T E : Type 0} {F : List Fact} {key : Key} {left : GapsLeft}
    {s t : Option (List ℕ)} (t' : Option (List ℕ)) (r : Result T E) → StatusWritten F key s t
    → GivesGaps F key left → Writes t t' (flat_map gap_line left.gaps) r
    → Writes s t' (object_lines F key) r
unfolding object_lines
object_written {F = F} {key = key} {left = left} {s = s} {t = t} t' r h g more =
    Writes-behind s t t' (status_line key (status_at F key (fact_at F (info_address key))))
    (flat_map gap_line (gaps_at F key (fact_at F (info_address key)))) r (line_at h)
    (subst (λ l. Writes t t' (flat_map gap_line l) r) (gaps_are F key left g) more)

-- and an object without one information has none
pub object_alone : {F : List Fact} {key : Key} {s t : Option (List ℕ)} (fault : GapFault)
    → StatusWritten F key s t → TellsGapFault F key fault → Appends s t (object_lines F key)
unfolding object_lines
object_alone {F = F} {key = key} {s = s} {t = t} fault h g =
    let front = status_line key (status_at F key (fact_at F (info_address key))) in
    let all : front ≡ front ++ flat_map gap_line (gaps_at F key (fact_at F (info_address key))) =
    sym (append-nil front) ∙ ap (λ l. front ++ flat_map gap_line l) (sym (no_gaps F key fault g)) in
    subst (λ (l : List ℕ). Appends s t l) all (line_at h)
