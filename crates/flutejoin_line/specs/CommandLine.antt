-- The command line: the arguments of each command, and what each field of its line is.
use Rattle.std.specs.Prelude.{◌≡◌, ◌≤◌, ◌^◌, ◌&&◌, ◌||◌, ℕ, Bool, true, false, not, List, [], ◌∷◌}
use Rattle.std.specs.Prelude.{◌++◌, length, map, codes, Option, Some, None, option_map}
use Rattle.std.specs.List.{list_any}
use Rattle.std.specs.Str.{bytes_eq}
use Rattle.std.specs.Borrow.{Bor}
use Rattle.clap.specs.Faults.{fault_of}
use Rattle.clap.specs.Kinds.{Kinds}
use Rattle.clap.specs.Simple.{App, subcommand_of}
use Rattle.clap.specs.Walk.{Row, Rule, Text, first_of}
use Rattle.flute_parts.specs.Information.{Information, information}
use Rattle.flute_streams.specs.Selections.{is_everything}
use Rattle.flute_streams.specs.Sessions.{listed_tsis}
use Rattle.flute_streams.specs.declared.choice.selection.Selection.{Selection}
use Rattle.flutejoin.specs.OutputGuard.{overwrites_journal, overwrites_other}
use Rattle.flutejoin.specs.declared.fill.asking.Asking.{Asking}
use Rattle.flutejoin.specs.declared.fill.asking.Asking.TheVariants.{All as AskAll, Only}
use Rattle.flutejoin.specs.declared.lines.form.Form.{Form}
use Rattle.flutejoin.specs.declared.lines.form.Form.TheVariants.{Plain, Json}
use Rattle.flutejoin.specs.declared.lines.style.Style.{Style}
use Rattle.flutejoin.specs.declared.output_guard.Overwrites.{Overwrites}
use Rattle.flutejoin_line.specs.Inputs.{is_standard_twice, word_if}
use Rattle.flutejoin_line.specs.Options.{HasSessions, HasSource, IsFlag, IsKey, IsNumber}
use Rattle.flutejoin_line.specs.Options.{IsSourceIf, IsZero, all_form, extract_form, first_unfit}
use Rattle.flutejoin_line.specs.Options.{fill_form, info_form, list_form, word, words}
use Rattle.flutejoin_line.specs.Parser.{command_with, force_flag, input_list, journal_rules}
use Rattle.flutejoin_line.specs.Parser.{key_rules, long_flag, no_commands, object_rules, option}
use Rattle.flutejoin_line.specs.Parser.{out, place, selection_rules, session_list, size_flag}
use Rattle.flutejoin_line.specs.Parser.{size_rules}
use Rattle.flutejoin_line.specs.Scoping.{IsScope}
use Rattle.flutejoin_line.specs.Selecting.{IsSelection}
use Rattle.flutejoin_line.specs.Sizes.{memory_in}
use Rattle.flutejoin_line.specs.declared.carousel_line.CarouselLine.{CarouselLine}
use Rattle.flutejoin_line.specs.declared.compare_line.CompareLine.{CompareLine}
use Rattle.flutejoin_line.specs.declared.extract_line.ExtractAllLine.{ExtractAllLine}
use Rattle.flutejoin_line.specs.declared.extract_line.ExtractLine.{ExtractLine}
use Rattle.flutejoin_line.specs.declared.fill_line.FillLine.{FillLine}
use Rattle.flutejoin_line.specs.declared.forget_line.ForgetLine.{ForgetLine}
use Rattle.flutejoin_line.specs.declared.forget_line.ForgetListLine.{ForgetListLine}
use Rattle.flutejoin_line.specs.declared.gaps_line.GapsLine.{GapsLine}
use Rattle.flutejoin_line.specs.declared.info_line.InfoLine.{InfoLine}
use Rattle.flutejoin_line.specs.declared.info_line.InfoListLine.{InfoListLine}
use Rattle.flutejoin_line.specs.declared.join_line.JoinLine.{JoinLine}
use Rattle.flutejoin_line.specs.declared.limit.Limit.{Limit}
use Rattle.flutejoin_line.specs.declared.limit.Limit.TheVariants.{AnySize, Shelf}
use Rattle.flutejoin_line.specs.declared.line.Line.{Line}
use Rattle.flutejoin_line.specs.declared.line.Line.TheVariants.{Packet, Show, Gaps, Extract}
use Rattle.flutejoin_line.specs.declared.line.Line.TheVariants.{Info, Join, Merge, Carousel}
use Rattle.flutejoin_line.specs.declared.line.Line.TheVariants.{ExtractAll, InfoList, Forget}
use Rattle.flutejoin_line.specs.declared.line.Line.TheVariants.{Compare, Minus, Fill, ForgetList}
use Rattle.flutejoin_line.specs.declared.listed_journal.ListedJournal.{ListedJournal}
use Rattle.flutejoin_line.specs.declared.merge_line.MergeLine.{MergeLine}
use Rattle.flutejoin_line.specs.declared.minus_line.MinusLine.{MinusLine}
use Rattle.flutejoin_line.specs.declared.packet_line.PacketLine.{PacketLine}
use Rattle.flutejoin_line.specs.declared.show_line.ShowLine.{ShowLine}
use Rattle.flutejoin_line.specs.declared.target.Target.{Target}

-- ---- what several commands have

-- the text is the word of this argument
abbrev pub IsWord : List ℕ → List Row → Bor (List ℕ) → Type 0
IsWord id rows text = text.now ≡ word id rows

-- the target of a command: OUT, and what it overwrites, by `--force`
pub record IsTarget (overwrites_by : Bool → Overwrites) (rows : List Row) (target : Target)
    : Type 0 where
  pub out : IsWord (codes "OUT") rows target.out
  pub force : Bool
  pub is_forced : IsFlag (codes "force") rows force
  pub overwrites : target.overwrites ≡ overwrites_by force

-- whether `--any-size` was given, by the limit
abbrev pub is_any_size : Limit → Bool
is_any_size Shelf = false
is_any_size AnySize = true

-- what `--any-size` says
abbrev pub IsLimit : List Row → Limit → Type 0
IsLimit rows limit = IsFlag (codes "any-size") rows (is_any_size limit)

-- whether `--json` was given, by the form
abbrev pub is_json : Form → Bool
is_json Plain = false
is_json Json = true

-- what `--json` says
abbrev pub IsForm : List Row → Form → Type 0
IsForm rows form = IsFlag (codes "json") rows (is_json form)

-- the arguments of a command with two journals
abbrev pub pair_rules : List Rule
pair_rules = place (codes "A") ∷ place (codes "B") ∷ []

-- the words of the two journals
abbrev pub pair_words : List Row → List (List ℕ)
pair_words rows = word (codes "A") rows ∷ word (codes "B") rows ∷ []

-- the two journals of a command, of which standard input is at most one
pub record IsPair (rows : List Row) (first second : Bor (List ℕ)) : Type 0 where
  pub first_is : IsWord (codes "A") rows first
  pub second_is : IsWord (codes "B") rows second
  pub once : is_standard_twice (pair_words rows) ≡ false

-- the words of a list and of a journal
abbrev pub list_words : List Row → List (List ℕ)
list_words rows = word (codes "list") rows ∷ word (codes "J") rows ∷ []

-- the name of the list of objects, if there is one
abbrev pub list_of : ListedJournal → Option (List ℕ)
list_of inputs = option_map (λ (list : Bor (List ℕ)). list.now) inputs.list

-- a journal and perhaps a list of its objects, of which standard input is at most one
pub record IsListedJournal (rows : List Row) (inputs : ListedJournal) : Type 0 where
  pub list : list_of inputs ≡ first_of (codes "list") rows
  pub journal : IsWord (codes "J") rows inputs.journal
  pub once : is_standard_twice (list_words rows) ≡ false

-- whether OUT, if it is not standard output, is one of two words
abbrev pub is_out_among : List Row → List ℕ → List ℕ → Bool
is_out_among rows first second =
    let out = word (codes "OUT") rows in
    not (bytes_eq out (codes "-")) && (bytes_eq out first || bytes_eq out second)

-- whether OUT is one of the two journals
abbrev pub is_out_an_input : List Row → Bool
is_out_an_input rows = is_out_among rows (word (codes "A") rows) (word (codes "B") rows)

-- ---- the commands

-- the arguments of `packet`
abbrev pub packet_rules : List Rule
packet_rules = long_flag (codes "json") ∷ place (codes "HEX") ∷ []

-- the line of `packet` that these words say
pub record IsPacketLine (rows : List Row) (line : PacketLine) : Type 0 where
  pub form : IsForm rows line.form
  pub hex : IsWord (codes "HEX") rows line.hex

-- its options select entries, and say what is printed of them
abbrev pub show_rules : List Rule
show_rules =
    size_flag ∷ option (codes "list") ∷ long_flag (codes "sums") ∷ long_flag (codes "json")
    ∷ long_flag (codes "conflicts") ∷ object_rules ++ journal_rules

-- the line of `show` that these words say
pub record IsShowLine (rows : List Row) (line : ShowLine) : Type 0 where
  pub selection : IsSelection rows line.selection
  pub form : IsForm rows line.style.form
  pub sums : IsFlag (codes "sums") rows line.style.sums
  pub inputs : IsListedJournal rows line.inputs

-- its options select objects, and say what is printed of them
abbrev pub gaps_rules : List Rule
gaps_rules =
    size_flag ∷ option (codes "list") ∷ long_flag (codes "check")
    ∷ long_flag (codes "summary") ∷ long_flag (codes "conflicts")
    ∷ long_flag (codes "ranges") ∷ long_flag (codes "json")
    ∷ object_rules ++ journal_rules

-- what `gaps` selects, and how it prints that; `--conflicts` is of the second
pub record IsStyled (rows : List Row) (s : Selection) (style : Style) : Type 0 where
  pub selected : IsSelection rows (record s { conflicts = style.conflicts })
  pub all_entries : s.conflicts ≡ false
  pub check : IsFlag (codes "check") rows style.check
  pub summary : IsFlag (codes "summary") rows style.summary
  pub ranges : IsFlag (codes "ranges") rows style.ranges
  pub form : IsForm rows style.form

-- the line of `gaps` that these words say
pub record IsGapsLine (rows : List Row) (line : GapsLine) : Type 0 where
  pub limit : IsLimit rows line.limit
  pub styled : IsStyled rows line.selection line.style
  pub inputs : IsListedJournal rows line.inputs

-- its options select objects, and say what is printed of them
abbrev pub compare_rules : List Rule
compare_rules =
    size_flag ∷ long_flag (codes "check") ∷ long_flag (codes "summary") ∷ long_flag (codes "json")
    ∷ object_rules ++ pair_rules

-- the line of `compare` that these words say
pub record IsCompareLine (rows : List Row) (line : CompareLine) : Type 0 where
  pub selection : IsSelection rows line.selection
  pub check : IsFlag (codes "check") rows line.style.check
  pub summary : IsFlag (codes "summary") rows line.style.summary
  pub form : IsForm rows line.style.form
  pub pair : IsPair rows line.first line.second

-- its options are of one object or of all
abbrev pub extract_rules : List Rule
extract_rules =
    out ∷ force_flag ∷ size_flag ∷ long_flag (codes "all") ∷ option (codes "list")
    ∷ option (codes "source") ∷ session_list ∷ option (codes "toi") ∷ option (codes "fdt")
    ∷ journal_rules

-- the line of `extract` that these words say
pub record IsExtractLine (rows : List Row) (line : ExtractLine) : Type 0 where
  pub one : IsFlag (codes "all") rows false
  pub form : first_unfit extract_form rows ≡ None
  pub target : IsTarget overwrites_other rows line.target
  pub limit : IsLimit rows line.limit
  pub key : IsKey (HasSource rows) rows line.key
  pub journal : IsWord (codes "J") rows line.journal

-- the line of `extract --all` that these words say
pub record IsExtractAllLine (rows : List Row) (line : ExtractAllLine) : Type 0 where
  pub all : IsFlag (codes "all") rows true
  pub form : first_unfit all_form rows ≡ None
  pub force : IsFlag (codes "force") rows false
  pub out : IsWord (codes "OUT") rows line.out
  pub limit : IsLimit rows line.limit
  pub sender : IsSourceIf rows line.picked.sender
  pub sessions : HasSessions rows (listed_tsis line.picked.sessions)
  pub inputs : IsListedJournal rows line.inputs

-- of one object or of a list of them
abbrev pub info_rules : List Rule
info_rules =
    out ∷ force_flag ∷ size_flag ∷ option (codes "list") ∷ option (codes "source")
    ∷ option (codes "tsi")
    ∷ option (codes "toi") ∷ option (codes "fdt") ∷ option (codes "length")
    ∷ option (codes "symbol") ∷ option (codes "block") ∷ journal_rules

-- what three numbers of their ranges say
pub record AreNumbersOf (rows : List Row) (info : Information) : Type 0 where
  pub length : ℕ
  pub symbol : ℕ
  pub block : ℕ
  pub is_length : IsNumber (codes "length") (2 ^ 64) rows length
  pub is_symbol : IsNumber (codes "symbol") (2 ^ 16) rows symbol
  pub is_block : IsNumber (codes "block") (2 ^ 32) rows block
  pub same : info ≡ information length symbol block

-- the line of `info` that these words say
pub record IsInfoLine (rows : List Row) (line : InfoLine) : Type 0 where
  pub one : first_of (codes "list") rows ≡ None
  pub form : first_unfit info_form rows ≡ None
  pub target : IsTarget overwrites_journal rows line.target
  pub limit : IsLimit rows line.limit
  pub key : IsKey (HasSource rows) rows line.key
  pub info : AreNumbersOf rows line.info
  pub journal : IsWord (codes "J") rows line.journal

-- the line of `info --list` that these words say
pub record IsInfoListLine (rows : List Row) (line : InfoListLine) : Type 0 where
  pub list : first_of (codes "list") rows ≡ Some line.list.now
  pub form : first_unfit list_form rows ≡ None
  pub once : is_standard_twice (list_words rows) ≡ false
  pub target : IsTarget overwrites_journal rows line.target
  pub limit : IsLimit rows line.limit
  pub journal : IsWord (codes "J") rows line.journal

-- the arguments of `join`
abbrev pub join_rules : List Rule
join_rules =
    out ∷ force_flag ∷ size_flag ∷ option (codes "memory") ∷ option (codes "source")
    ∷ session_list ∷ option (codes "toi") ∷ option (codes "fdt")
    ∷ long_flag (codes "no-fdt") ∷ option (codes "without") ∷ long_flag (codes "reasons")
    ∷ input_list ∷ []

-- the list of objects, if there is one, and the inputs
abbrev pub without_words : List Row → List (List ℕ)
without_words rows = word_if (first_of (codes "without") rows)

-- the words of the inputs of `join`, with its list
abbrev pub join_words : List Row → List (List ℕ)
join_words rows = without_words rows ++ words (codes "INPUT") rows

-- of 1 to 64 inputs
pub record IsJoinLine (rows : List Row) (line : JoinLine) : Type 0 where
  pub target : IsTarget overwrites_journal rows line.target
  pub limit : IsLimit rows line.limit
  pub memory : memory_in rows ≡ Some line.memory
  pub sender : HasSource rows line.sender
  pub scope : IsScope rows line.scope
  pub without : option_map (λ text. text.now) line.without ≡ first_of (codes "without") rows
  pub reasons : IsFlag (codes "reasons") rows line.reasons
  pub inputs : map (λ input. input.now) line.inputs.items ≡ words (codes "INPUT") rows
  pub once : is_standard_twice (join_words rows) ≡ false

-- the arguments of `merge`
abbrev pub merge_rules : List Rule
merge_rules = out ∷ force_flag ∷ size_flag ∷ pair_rules

-- the line of `merge` that these words say
pub record IsMergeLine (rows : List Row) (line : MergeLine) : Type 0 where
  pub target : IsTarget overwrites_journal rows line.target
  pub pair : IsPair rows line.a line.b
  pub others : is_out_an_input rows ≡ false

-- the arguments of `minus`
abbrev pub minus_rules : List Rule
minus_rules = merge_rules

-- the line of `minus` that these words say
pub record IsMinusLine (rows : List Row) (line : MinusLine) : Type 0 where
  pub target : IsTarget overwrites_journal rows line.target
  pub pair : IsPair rows line.first line.second
  pub others : is_out_an_input rows ≡ false

-- the arguments of `fill`
abbrev pub fill_rules : List Rule
fill_rules =
    out ∷ force_flag ∷ size_flag ∷ option (codes "gaps") ∷ long_flag (codes "only") ∷ journal_rules

-- its inputs
abbrev pub fill_words : List Row → List (List ℕ)
fill_words rows = word (codes "gaps") rows ∷ word (codes "J") rows ∷ []

-- whether OUT is also an input of `fill`
abbrev pub is_out_of_fill : List Row → Bool
is_out_of_fill rows = is_out_among rows (word (codes "J") rows) (word (codes "gaps") rows)

-- what is asked for, by `--only`
abbrev pub asking_by : Bool → Asking
asking_by false = AskAll
asking_by true = Only

-- the line of `fill` that these words say
pub record IsFillLine (rows : List Row) (line : FillLine) : Type 0 where
  pub form : first_unfit fill_form rows ≡ None
  pub target : IsTarget overwrites_journal rows line.target
  pub gaps : IsWord (codes "gaps") rows line.gaps
  pub journal : IsWord (codes "J") rows line.journal
  pub once : is_standard_twice (fill_words rows) ≡ false
  pub others : is_out_of_fill rows ≡ false
  pub only : Bool
  pub is_only : IsFlag (codes "only") rows only
  pub asking : line.asking ≡ asking_by only

-- its options select entries, of all objects or of a list of them
abbrev pub forget_rules : List Rule
forget_rules =
    out ∷ force_flag ∷ size_flag ∷ option (codes "list") ∷ selection_rules ++ journal_rules

-- the line of `forget` that these words say
pub record IsForgetLine (rows : List Row) (line : ForgetLine) : Type 0 where
  pub no_list : first_of (codes "list") rows ≡ None
  pub target : IsTarget overwrites_journal rows line.target
  pub selection : IsSelection rows line.selection
  pub some : is_everything line.selection ≡ false
  pub journal : IsWord (codes "J") rows line.journal

-- the line of `forget --list` that these words say
pub record IsForgetListLine (rows : List Row) (line : ForgetListLine) : Type 0 where
  pub list : first_of (codes "list") rows ≡ Some line.inputs.list.now
  pub once : is_standard_twice (list_words rows) ≡ false
  pub target : IsTarget overwrites_journal rows line.target
  pub selection : IsSelection rows line.selection
  pub journal : IsWord (codes "J") rows line.inputs.journal

-- the arguments of `carousel`
abbrev pub carousel_rules : List Rule
carousel_rules = out ∷ force_flag ∷ key_rules ++ size_rules ++ place (codes "FILE") ∷ []

-- the line of `carousel` that these words say
pub record IsCarouselLine (rows : List Row) (line : CarouselLine) : Type 0 where
  pub target : IsTarget overwrites_other rows line.target
  pub key : IsKey IsZero rows line.key
  pub symbol : IsNumber (codes "symbol") (2 ^ 16) rows line.symbol
  pub block : IsNumber (codes "block") (2 ^ 32) rows line.block
  pub file : IsWord (codes "FILE") rows line.file

-- ---- all of them

-- the program
unfoldable pub program : App
program = record {
  top = record no_commands.top { is_leaf = false };
  subs = command_with (codes "packet") packet_rules
      ∷ command_with (codes "show") show_rules
      ∷ command_with (codes "gaps") gaps_rules
      ∷ command_with (codes "compare") compare_rules
      ∷ command_with (codes "extract") extract_rules
      ∷ command_with (codes "info") info_rules
      ∷ command_with (codes "join") join_rules
      ∷ command_with (codes "merge") merge_rules
      ∷ command_with (codes "minus") minus_rules
      ∷ command_with (codes "fill") fill_rules
      ∷ command_with (codes "forget") forget_rules
      ∷ command_with (codes "carousel") carousel_rules
      ∷ [];
}

-- the parser knows a command of this name
abbrev pub is_command : List ℕ → Bool
is_command name = list_any (λ shape. bytes_eq name shape.name) program.subs

-- the line is what these rows of the command with this name say
abbrev pub IsLine : List ℕ → List Row → Line → Type 0
IsLine name rows (Packet line) = (name ≡ codes "packet") × IsPacketLine rows line
IsLine name rows (Show line) = (name ≡ codes "show") × IsShowLine rows line
IsLine name rows (Gaps line) = (name ≡ codes "gaps") × IsGapsLine rows line
IsLine name rows (Compare line) = (name ≡ codes "compare") × IsCompareLine rows line
IsLine name rows (Extract line) = (name ≡ codes "extract") × IsExtractLine rows line
IsLine name rows (ExtractAll line) = (name ≡ codes "extract") × IsExtractAllLine rows line
IsLine name rows (Info line) = (name ≡ codes "info") × IsInfoLine rows line
IsLine name rows (InfoList line) = (name ≡ codes "info") × IsInfoListLine rows line
IsLine name rows (Join line) = (name ≡ codes "join") × IsJoinLine rows line
IsLine name rows (Merge line) = (name ≡ codes "merge") × IsMergeLine rows line
IsLine name rows (Minus line) = (name ≡ codes "minus") × IsMinusLine rows line
IsLine name rows (Fill line) = (name ≡ codes "fill") × IsFillLine rows line
IsLine name rows (Forget line) = (name ≡ codes "forget") × IsForgetLine rows line
IsLine name rows (ForgetList line) = (name ≡ codes "forget") × IsForgetListLine rows line
IsLine name rows (Carousel line) = (name ≡ codes "carousel") × IsCarouselLine rows line

-- ---- words

-- the command that the words name, with what they give for each of its arguments
unfoldable pub command_in : List Text → Option (Text × List Row)
command_in words = subcommand_of program words

-- why the parser refuses the words: none if it takes them; help and the version are refusals too
unfoldable pub refusals_of : List Text → Kinds
refusals_of words = fault_of program words
