-- What the command `show` returns and writes.
use Rattle.std.specs.Prelude.{◌≡◌, ℕ, Bool, true, false, List, ◌++◌, length, codes}
use Rattle.std.specs.Prelude.{Option, Result, Err, IfSome, filter}
use Rattle.std.specs.List.{flat_map}
use Rattle.std.specs.Io.KnownBytes.{Appends, Consumes}
use Rattle.flute_parts.specs.Devices.{AppendsPart}
use Rattle.flute_parts.specs.declared.fact.Fact.{Fact}
use Rattle.flute_journal.specs.declared.fault.ReadFault.{ReadFault}
use Rattle.flute_journal.specs.Format.{without_end_in}
use Rattle.flute_journal.specs.Input.{Fails}
use Rattle.flute_journal.specs.Frame.{AreItems}
use Rattle.flute_journal.specs.Journal.{IsJournalWithin, journal_frame}
use Rattle.flute_journal.specs.Whole.{StopsAfter}
use Rattle.flutejoin.specs.declared.limits.TheConstants.{MAX_ENTRIES}
use Rattle.flutejoin.specs.declared.lines.form.Form.{Form}
use Rattle.flutejoin.specs.declared.lines.form.Form.TheVariants.{Plain, Json}
use Rattle.flutejoin.specs.declared.lines.show_style.ShowStyle.{ShowStyle}
use Rattle.flutejoin.specs.Json.{json_count_line, json_fact_line}
use Rattle.flutejoin.specs.Lines.{fact_line, entries_line}
use Rattle.flutejoin.specs.SymbolSums.{summed_line}
use Rattle.flutejoin.specs.declared.command_fault.CommandFault.{CommandFault}
use Rattle.flutejoin.specs.declared.command_fault.CommandFault.TheVariants.{Input, CannotWrite}

-- the line of an entry, in a form, and with sums or without
abbrev pub line_of : Form → Bool → Fact → List ℕ
line_of Plain false fact = fact_line fact
line_of Plain true fact = summed_line fact
line_of Json sums fact = json_fact_line sums fact

-- the line that `show` prints of an entry
abbrev pub entry_line : ShowStyle → Fact → List ℕ
entry_line style fact = line_of style.form style.sums fact

-- the line of how many there are
abbrev pub number_line : Form → ℕ → List ℕ
number_line Plain n = entries_line n
number_line Json n = json_count_line (codes "entries") n

-- a line for each entry
abbrev pub entry_lines : ShowStyle → List Fact → List ℕ
entry_lines style entries = flat_map (entry_line style) entries

-- and then their number
abbrev pub shown_lines : ShowStyle → List Fact → List ℕ
shown_lines style entries = entry_lines style entries ++ number_line style.form (length entries)

-- a journal of these entries was read, and all lines of those that are picked were written
pub record ShowsAll (style : ShowStyle) (picks : Fact → Bool) (input old new : Option (List ℕ))
    : Type 0 where
  pub entries : List Fact
  pub journal : IfSome input (λ bytes. IsJournalWithin MAX_ENTRIES bytes entries)
  pub written : Appends old new (shown_lines style (filter picks entries))

-- the lines of the picked entries that were read before a fault were written, and no more
pub record ShowsUntil (style : ShowStyle) (picks : Fact → Bool)
    (input left old new : Option (List ℕ)) (fault : ReadFault) : Type 0 where
  pub entries : List Fact
  pub are_items : AreItems journal_frame MAX_ENTRIES entries
  pub stops : StopsAfter MAX_ENTRIES entries input left fault
  pub written : Appends old new (entry_lines style (filter picks entries))

-- a proper prefix of the lines was written: of the picked entries that were read, or of those
-- of a whole journal
pub data ShowsPart (style : ShowStyle) (picks : Fact → Bool)
    (input left old new : Option (List ℕ)) : Type 0 where
  of_entries : (entries : List Fact) → (a : AreItems journal_frame MAX_ENTRIES entries)
      → Consumes input left (without_end_in a.told entries)
      → AppendsPart old new (entry_lines style (filter picks entries))
      → ShowsPart style picks input left old new
  of_journal : (entries : List Fact)
      → IfSome input (λ bytes. IsJournalWithin MAX_ENTRIES bytes entries)
      → AppendsPart old new (shown_lines style (filter picks entries))
      → ShowsPart style picks input left old new

-- why it failed, and what was written
abbrev pub ShowFails : ShowStyle → (Fact → Bool) → Option (List ℕ) → Option (List ℕ)
    → Option (List ℕ) → Option (List ℕ) → CommandFault → Type 0
ShowFails style picks input left old new (Input number fault) =
    (number ≡ 1) × ShowsUntil style picks input left old new fault
ShowFails style picks input left old new CannotWrite = ShowsPart style picks input left old new
ShowFails style picks input left old new _ = ⊥

-- how often the source failed in a command that gave this: only if an input was at fault
abbrev pub FailsToRead : {T : Type 0} → ℕ → ℕ → Result T CommandFault → Type 0
FailsToRead {T} old new (Err (Input number fault)) = Fails {T = T} old new (Err fault)
FailsToRead old new _ = new ≡ old
