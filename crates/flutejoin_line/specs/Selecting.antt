-- What the options of a command select of a journal.
use Rattle.std.specs.Prelude.{◌≡◌, ◌^◌, ◌&&◌, ◌==◌, ◌++◌, ◌∷◌, [], ℕ, Bool, true, false, List}
use Rattle.std.specs.Prelude.{Option, Some, None, codes, if◌then◌else◌, is_some, nat_lt, option_map}
use Rattle.std.specs.List.{after_first, before_first}
use Rattle.clap.specs.Walk.{Row, first_of}
use Rattle.flute_parts.specs.declared.object_key.ObjectName.{ObjectName}
use Rattle.flute_parts.specs.declared.symbol_id.SymbolId.{SymbolId}
use Rattle.flute_streams.specs.Selections.{is_everything}
use Rattle.flute_streams.specs.Sessions.{listed_tsis}
use Rattle.flute_streams.specs.declared.choice.selection.Selection.{Selection}
use Rattle.flutejoin_line.specs.Options.{HasSessions, HasSource, IsFlag, IsInstance}
use Rattle.flutejoin_line.specs.Options.{IsSourceIf, IsToi, are_sessions, first_wrong, number_in}
use Rattle.flutejoin_line.specs.Options.{object_by}
use Rattle.flutejoin_line.specs.Options.{word, words}
use Rattle.flutejoin.specs.declared.command_fault.CommandFault.{CommandFault}
use Rattle.flutejoin.specs.declared.command_fault.CommandFault.TheVariants.{BadNumber, BadSource}
use Rattle.flutejoin.specs.declared.command_fault.CommandFault.TheVariants.{BadKey}
use Rattle.flutejoin.specs.declared.command_fault.CommandFault.TheVariants.{MissingChoice}

-- ---- symbols

-- the symbol of this source block and of this encoding symbol ID (RFC 5445, 3.2.1)
abbrev pub symbol_by : Option ℕ → Option ℕ → Option SymbolId
symbol_by (Some sbn) (Some esi) =
    if nat_lt sbn (2 ^ 16) && nat_lt esi (2 ^ 16) then Some (record { sbn = sbn; esi = esi })
    else None
symbol_by _ _ = None

-- 47 is the slash, which parts the block from the symbol, as in `0/17`
abbrev pub is_slash : ℕ → Bool
is_slash byte = byte == 47

unfoldable pub symbol_in : List ℕ → Option SymbolId
symbol_in text =
    symbol_by (number_in (before_first is_slash text)) (number_in (after_first is_slash text))

-- the symbol of `--symbol`, or none if it is left out
abbrev pub IsSymbolIf : List Row → Option SymbolId → Type 0
IsSymbolIf rows None = first_of (codes "symbol") rows ≡ None
IsSymbolIf rows (Some id) =
    (is_some (first_of (codes "symbol") rows) ≡ true)
    × (symbol_in (word (codes "symbol") rows) ≡ Some id)

-- it is left out, or names a symbol
abbrev pub is_symbol_or_none : Option (List ℕ) → Bool
is_symbol_or_none None = true
is_symbol_or_none (Some text) = is_some (symbol_in text)

abbrev pub has_symbol : List Row → Bool
has_symbol rows = is_symbol_or_none (first_of (codes "symbol") rows)

-- ---- objects

-- those of the two options that are given, with what their numbers are below
abbrev pub object_options : List Row → List (List ℕ × ℕ)
object_options rows =
    (if is_some (first_of (codes "toi") rows) then (codes "toi", 2 ^ 112) ∷ [] else [])
    ++ (if is_some (first_of (codes "fdt") rows) then (codes "fdt", 2 ^ 20) ∷ [] else [])

-- the object that the two numbers name, or any if there are none; an FDT Instance goes with the
-- TOI 0 alone
abbrev pub object_of : Option ℕ → Option ℕ → Option (Option ObjectName)
object_of None None = Some None
object_of None (Some instance) = None
object_of (Some toi) instance = option_map Some (object_by toi instance)

pub record NamesObject (rows : List Row) (object : Option (Option ObjectName)) : Type 0 where
  pub toi : Option ℕ
  pub instance : Option ℕ
  pub is_toi : IsToi rows toi
  pub is_instance : IsInstance rows instance
  pub named : object_of toi instance ≡ object

-- ---- selections

-- what the options select
pub record IsSelection (rows : List Row) (s : Selection) : Type 0 where
  pub sender : IsSourceIf rows s.sender
  pub sessions : HasSessions rows (listed_tsis s.scope.sessions)
  pub object : NamesObject rows (Some s.scope.object)
  pub kinds : s.scope.files ≡ false
  pub symbol : IsSymbolIf rows s.symbol
  pub info : IsFlag (codes "info") rows s.info
  pub conflicts : IsFlag (codes "conflicts") rows s.conflicts

-- each number is one of its range
pub record AreNumbersRight (rows : List Row) : Type 0 where
  pub tsis : List ℕ
  pub sessions : HasSessions rows tsis
  pub object : first_wrong (object_options rows) rows ≡ None
  pub symbol : has_symbol rows ≡ true

-- the option with this name is the first that is no number of its range
pub data IsWrong (rows : List Row) (name : List ℕ) : Type 0 where
  of_sessions : name ≡ codes "tsi" → are_sessions (words (codes "tsi") rows) ≡ false
      → IsWrong rows name
  of_object : (tsis : List ℕ) → HasSessions rows tsis
      → first_wrong (object_options rows) rows ≡ Some name → IsWrong rows name
  of_symbol : (tsis : List ℕ) → HasSessions rows tsis
      → first_wrong (object_options rows) rows ≡ None → name ≡ codes "symbol"
      → has_symbol rows ≡ false → IsWrong rows name

-- why they select nothing: each fault comes only if those before it do not
abbrev pub IsSelectionFault : List Row → CommandFault → Type 0
IsSelectionFault rows (BadNumber name) = IsWrong rows name.now
IsSelectionFault rows BadSource =
    AreNumbersRight rows × ((sender : ℕ) → HasSource rows sender → ⊥)
IsSelectionFault rows BadKey =
    AreNumbersRight rows × ((sender : Option ℕ) × IsSourceIf rows sender)
    × NamesObject rows None
IsSelectionFault rows _ = ⊥

-- of a command that has to select something: its options select all
abbrev pub IsChoiceFault : List Row → CommandFault → Type 0
IsChoiceFault rows MissingChoice =
    (s : Selection) × IsSelection rows s × (is_everything s ≡ true)
IsChoiceFault rows fault = IsSelectionFault rows fault
