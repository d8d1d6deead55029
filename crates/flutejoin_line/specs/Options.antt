-- The options of the command line: their words, numbers, senders and keys.
use Rattle.std.specs.Prelude.{◌≡◌, ◌<◌, ◌^◌, ◌==◌, ◌&&◌, ℕ, Bool, true}
use Rattle.std.specs.Prelude.{false, List, [], ◌∷◌, ◌++◌, length, map, codes, if◌then◌else◌}
use Rattle.std.specs.Prelude.{nat_lt, nat_le, Option, Some, None, is_some, unwrap_or}
use Rattle.std.specs.List.{All, list_all}
use Rattle.std.specs.Char.{is_ascii_digit}
use Rattle.std.specs.Borrow.{Bor}
use Rattle.std.specs.Str.Parse.{digits_value}
use Rattle.clap.specs.Matches.{found_of}
use Rattle.clap.specs.Walk.{Row, all_of, first_of, one_of, rows_of}
use Rattle.clap.specs.declared.parser.matches.ArgMatches.{ArgMatches}
use Rattle.flute_parts.specs.declared.key.Key.{Key}
use Rattle.flute_parts.specs.declared.object_key.ObjectName.{ObjectName}
use Rattle.flute_parts.specs.declared.object_key.ObjectName.TheVariants.{Instance, File}
use Rattle.flutejoin.specs.Sender.{NamesSender}
use Rattle.flutejoin.specs.declared.command_fault.CommandFault.{CommandFault}
use Rattle.flutejoin.specs.declared.command_fault.CommandFault.TheVariants.{BadNumber}
use Rattle.flutejoin.specs.declared.command_fault.CommandFault.TheVariants.{BadOption}
use Rattle.flutejoin.specs.declared.command_fault.CommandFault.TheVariants.{MissingOption}

-- ---- words

-- what the parser found for each argument of a command
abbrev pub found_rows : ArgMatches → List Row
found_rows matches = rows_of (found_of matches)

-- the word after an option, or at a place; the empty text if there is none
abbrev pub word : List ℕ → List Row → List ℕ
word id rows = unwrap_or (first_of id rows) []

-- all of them, in their order
abbrev pub words : List ℕ → List Row → List (List ℕ)
words id rows = unwrap_or (all_of id rows) []

-- a flag is set if the parser reads it as true, and not if it reads it as false or not at all
pub record IsFlag (id : List ℕ) (rows : List Row) (is_set : Bool) : Type 0 where
  pub given : one_of id rows ≡ Some (codes "true") → is_set ≡ true
  pub other : one_of id rows ≡ Some (codes "false") → is_set ≡ false
  pub none : one_of id rows ≡ None → is_set ≡ false

-- ---- options

-- how often an option is given
abbrev pub times_of : List ℕ → List Row → ℕ
times_of option rows = length (words option rows)

-- the first of these options that is not given as often as it is to be
abbrev pub first_unfit : List (List ℕ × ℕ) → List Row → Option (List ℕ)
first_unfit [] rows = None
first_unfit (option ∷ options) rows =
    if times_of option.0 rows == option.1 then first_unfit options rows else Some option.0

-- the fault names that option, by whether it is given at all; or it is another
abbrev pub IsFormFault : List (List ℕ × ℕ) → (CommandFault → Type 0) → List Row
    → CommandFault → Type 0
IsFormFault options IsOther rows (BadOption name) =
    (first_unfit options rows ≡ Some name.now) × (0 < times_of name.now rows)
IsFormFault options IsOther rows (MissingOption name) =
    (first_unfit options rows ≡ Some name.now) × (times_of name.now rows ≡ 0)
IsFormFault options IsOther rows fault = (first_unfit options rows ≡ None) × IsOther fault

-- options with their numbers, as the code has them
abbrev pub form_of : List (Bor (List ℕ) × ℕ) → List (List ℕ × ℕ)
form_of options = map (λ option. (option.0.now, option.1)) options

-- `extract` of one object
abbrev pub extract_form : List (List ℕ × ℕ)
extract_form = (codes "tsi", 1) ∷ (codes "toi", 1) ∷ (codes "list", 0) ∷ []

-- and of all
abbrev pub all_form : List (List ℕ × ℕ)
all_form = (codes "toi", 0) ∷ (codes "fdt", 0) ∷ []

-- `info` of one object
abbrev pub info_form : List (List ℕ × ℕ)
info_form =
    (codes "tsi", 1) ∷ (codes "toi", 1) ∷ (codes "length", 1) ∷ (codes "symbol", 1)
    ∷ (codes "block", 1) ∷ []

-- and of a list
abbrev pub list_form : List (List ℕ × ℕ)
list_form =
    (codes "source", 0) ∷ (codes "tsi", 0) ∷ (codes "toi", 0) ∷ (codes "fdt", 0)
    ∷ (codes "length", 0) ∷ (codes "symbol", 0) ∷ (codes "block", 0) ∷ []

-- `fill`
abbrev pub fill_form : List (List ℕ × ℕ)
fill_form = (codes "gaps", 1) ∷ []

-- ---- numbers

-- 1 to 39 decimal digits, and nothing else
abbrev pub is_numeral : List ℕ → Bool
is_numeral text =
    nat_lt 0 (length text) && (nat_le (length text) 39 && list_all is_ascii_digit text)

-- the number that they spell, if it is below 2^128; no other text spells one
unfoldable pub number_in : List ℕ → Option ℕ
number_in text =
    if is_numeral text && nat_lt (digits_value 10 text) (2 ^ 128) then Some (digits_value 10 text)
    else None

abbrev pub is_below : ℕ → Option ℕ → Bool
is_below limit None = false
is_below limit (Some n) = nat_lt n limit

-- the word after an option is a number below the limit
abbrev pub has_number : List ℕ → ℕ → List Row → Bool
has_number option limit rows = is_below limit (number_in (word option rows))

-- this one
abbrev pub IsNumber : List ℕ → ℕ → List Row → ℕ → Type 0
IsNumber option limit rows n = (number_in (word option rows) ≡ Some n) × (n < limit)

-- the first option whose word spells no number below its limit
abbrev pub first_wrong : List (List ℕ × ℕ) → List Row → Option (List ℕ)
first_wrong [] rows = None
first_wrong (option ∷ options) rows =
    if has_number option.0 option.1 rows then first_wrong options rows else Some option.0

abbrev pub IsBadNumber : List ℕ → CommandFault → Type 0
IsBadNumber option (BadNumber name) = name.now ≡ option
IsBadNumber option _ = ⊥

-- the fault names that option
abbrev pub IsFirstWrong : List (List ℕ × ℕ) → List Row → CommandFault → Type 0
IsFirstWrong options rows (BadNumber name) = first_wrong options rows ≡ Some name.now
IsFirstWrong options rows _ = ⊥

-- the options that name an object, with what their numbers are below (RFC 5651, 5.1; RFC 6726,
-- 3.4.1)
abbrev pub key_options : List Row → List (List ℕ × ℕ)
key_options rows =
    (codes "tsi", 2 ^ 48) ∷ (codes "toi", 2 ^ 112)
    ∷ (if is_some (first_of (codes "fdt") rows) then (codes "fdt", 2 ^ 20) ∷ [] else [])

-- with those of its transmission information after them
abbrev pub info_options : List Row → List (List ℕ × ℕ)
info_options rows =
    key_options rows
    ++ (codes "length", 2 ^ 64) ∷ (codes "symbol", 2 ^ 16) ∷ (codes "block", 2 ^ 32) ∷ []

-- of a file that is sent the length is known
abbrev pub carousel_options : List Row → List (List ℕ × ℕ)
carousel_options rows =
    key_options rows ++ (codes "symbol", 2 ^ 16) ∷ (codes "block", 2 ^ 32) ∷ []

-- the number of an option, or none if it is left out
abbrev pub IsNumberIf : List ℕ → ℕ → List Row → Option ℕ → Type 0
IsNumberIf option limit rows None = first_of option rows ≡ None
IsNumberIf option limit rows (Some n) = IsNumber option limit rows n

-- that of `--toi`
abbrev pub IsToi : List Row → Option ℕ → Type 0
IsToi rows toi = IsNumberIf (codes "toi") (2 ^ 112) rows toi

-- that of `--fdt`
abbrev pub IsInstance : List Row → Option ℕ → Type 0
IsInstance rows instance = IsNumberIf (codes "fdt") (2 ^ 20) rows instance

-- up to 64 words that spell a session each (RFC 5651, 5.1)
abbrev pub are_sessions : List (List ℕ) → Bool
are_sessions texts =
    nat_le (length texts) 64 && list_all (λ text. is_below (2 ^ 48) (number_in text)) texts

-- the numbers of several words, each below the limit
abbrev pub AreNumbers : ℕ → List (List ℕ) → List ℕ → Type 0
AreNumbers limit texts numbers =
    (map number_in texts ≡ map Some numbers) × All (λ n. n < limit) numbers

-- the sessions that `--tsi` names, or none
abbrev pub HasSessions : List Row → List ℕ → Type 0
HasSessions rows tsis = AreNumbers (2 ^ 48) (words (codes "tsi") rows) tsis

-- ---- senders

-- the sender that `--source` names, or 0 if there is no such option
abbrev pub IsSource : Option (List ℕ) → ℕ → Type 0
IsSource None sender = sender ≡ 0
IsSource (Some text) sender = NamesSender text sender

abbrev pub HasSource : List Row → ℕ → Type 0
HasSource rows sender = IsSource (first_of (codes "source") rows) sender

-- the sender of `--source`, or none if it is left out
abbrev pub IsSourceIf : List Row → Option ℕ → Type 0
IsSourceIf rows None = first_of (codes "source") rows ≡ None
IsSourceIf rows (Some sender) =
    (is_some (first_of (codes "source") rows) ≡ true) × HasSource rows sender

-- ---- keys

-- an FDT Instance has the TOI 0, and no file has (RFC 6726, 3.4)
abbrev pub object_by : ℕ → Option ℕ → Option ObjectName
object_by toi None = if toi == 0 then None else Some (File toi)
object_by toi (Some instance) = if toi == 0 then Some (Instance instance) else None

abbrev pub HasObject : List Row → Option ObjectName → Type 0
HasObject rows object =
    (toi : ℕ) × ((instance : Option ℕ) × (IsNumber (codes "toi") (2 ^ 112) rows toi
    × (IsInstance rows instance × (object_by toi instance ≡ object))))

-- what `--tsi`, `--toi` and `--fdt` name, of a sender that is meant
pub record IsKey (IsMeant : ℕ → Type 0) (rows : List Row) (key : Key) : Type 0 where
  pub sender : IsMeant key.session.sender
  pub tsi : IsNumber (codes "tsi") (2 ^ 48) rows key.session.tsi
  pub object : HasObject rows (Some key.object)

-- a command without `--source` means the sender 0
abbrev pub IsZero : ℕ → Type 0
IsZero sender = sender ≡ 0
