-- The lines that are given of journals.
use Rattle.std.specs.Prelude.{◌==◌, ℕ, List, Option, Some, false, if◌then◌else◌}
use Rattle.std.specs.Io.KnownBytes.{Appends}
use Rattle.std.specs.List.{flat_map}
use Rattle.flute_parts.specs.declared.fact.Fact.{Fact}
use Rattle.flute_journal.specs.Journal.{IsJournalWithin}
use Rattle.flute_streams.specs.Compared.{AreRows}
use Rattle.flute_streams.specs.declared.merge.sides.Row.{Row}
use Rattle.flutejoin.specs.CompareLines.{row_line}
use Rattle.flutejoin.specs.Gaps.{GapsFail}
use Rattle.flutejoin.specs.Limits.{Limits, IsOver}
use Rattle.flutejoin.specs.Styles.{printed}
use Rattle.flutejoin.specs.Told.{AreTold, Told}
use Rattle.flutejoin.specs.declared.command_fault.CommandFault.{CommandFault}
use Rattle.flutejoin.specs.declared.limits.TheConstants.{MAX_ENTRIES}
use Rattle.flutejoin.specs.declared.lines.form.Form.{Form}
use Rattle.flutejoin.specs.declared.lines.form.Form.TheVariants.{Plain, Json}
use Rattle.flutejoin.specs.declared.lines.style.Style.{Style}

-- JSON, if the number is not 0
abbrev pub form_for : ℕ → Form
form_for n = if n == 0 then Plain else Json

-- all objects have a line, and all their gaps
abbrev pub style_in : Form → Style
style_in form = record {
  check = false;
  summary = false;
  conflicts = false;
  ranges = false;
  form = form;
}

-- these are a journal within the limits, and the lines of all its objects were appended
pub record Lists (most : Limits) (style : Style) (journal : List ℕ)
    (old new : Option (List ℕ)) : Type 0 where
  pub entries : List Fact
  pub journal_is : IsJournalWithin MAX_ENTRIES journal entries
  pub within : ¬ IsOver most entries
  pub objects : List Told
  pub told : AreTold entries objects
  pub lines : Appends old new (printed style objects)

-- why not
abbrev pub ListFails : Limits → List ℕ → CommandFault → Type 0
ListFails most journal fault =
    (left : Option (List ℕ)) × GapsFail most (Some journal) left fault

-- these are two journals, and the line of each object that either has was appended
pub record Compares (form : Form) (first second : List ℕ)
    (old new : Option (List ℕ)) : Type 0 where
  pub facts : List Fact
  pub others : List Fact
  pub first_is : IsJournalWithin MAX_ENTRIES first facts
  pub second_is : IsJournalWithin MAX_ENTRIES second others
  pub rows : List Row
  pub are : AreRows facts others rows
  pub lines : Appends old new (flat_map (row_line form) rows)
