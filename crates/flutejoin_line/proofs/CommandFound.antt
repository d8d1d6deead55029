-- Words that the parser takes name a command of the program, and not its own `help`.
use Rattle.std.proofs.Common.{◌≡◌, ℕ, Bool, true, false, not, ◌&&◌, ◌||◌, cond}
use Rattle.std.proofs.Common.{if◌then◌else◌, List, [], ◌∷◌, ◌++◌, Option, None}
use Rattle.std.proofs.Common.{Some, IfSome, IsSomeAnd, is_some}
use Rattle.std.proofs.Common.{bytes_eq, codes, find, fold, map, option_map, refl, subst, sym, ap}
use Rattle.std.proofs.Common.{◌∙◌, true≢false, Result, Ok, Err, inr}
use Rattle.std.specs.Prelude.{MatchResult}
use Rattle.std.specs.List.{list_any}
use Rattle.std.proofs.lemmas.Slice.Eq.{bytes_eq-Decides}
use Rattle.clap.specs.Faults.{built_fault, defaults_fault, entered_fault, other_fault, settle_fault}
use Rattle.clap.specs.Faults.{check_fault, step_fault, turn_fault, walk_fault, word_fault}
use Rattle.clap.specs.Kinds.{Kinds, check_kinds, or_else}
use Rattle.clap.specs.Lexer.{long_of, short_of}
use Rattle.clap.specs.Simple.{App, Shape, argument_words, built, entered, label_of, names_of}
use Rattle.clap.specs.Simple.{built_leaf, help_shape, inherited, marked_built, rows_at}
use Rattle.clap.specs.Simple.{with_leaf_noted}
use Rattle.clap.specs.Walk.{Held, Names, Outcome, Row, Rule, Step, Text, Waiting, Walk, after_flag}
use Rattle.clap.specs.Walk.{after_step, answers_to, arg_by_index, arg_by_long, bundle, done}
use Rattle.clap.specs.Walk.{idle, long_met, long_or_other, next, nothing_held, option, plain}
use Rattle.clap.specs.Walk.{plain_word, positional, refused, settled, short_or_plain}
use Rattle.clap.specs.Walk.{subcommand, subcommand_met, subcommand_or_other, to_positional}
use Rattle.clap.specs.Walk.{finished, trailing, value, waits, walk, walk_from, walked}
use Rattle.clap.specs.Walk.{walked_from, word_met}
use Rattle.clap.specs.declared.error.kind.ErrorKind.TheVariants as kind
use Rattle.flutejoin_line.specs.LineFaults.{IsFault, IsFaultIn, IsFaultOf, IsLineIn, IsLineOf}
use Rattle.flutejoin_line.specs.CommandLine.{IsLine}
use Rattle.flutejoin_line.specs.CommandLine.{is_command}
use Rattle.flutejoin_line.specs.CommandLine.{command_in, program, refusals_of}
use Rattle.flutejoin_line.specs.declared.line.Line.{Line}
use Rattle.flutejoin.specs.declared.command_fault.CommandFault.{CommandFault}

-- ---- no word is `help`

-- what the step meets is no command of that name
abbrev IsNoHelp : Step → Type 0
IsNoHelp (subcommand name) = bytes_eq name (codes "help") ≡ false
IsNoHelp _ = Unit {0}

a_plain_word : (rules : List Rule) (waiting : Waiting) (word : Text) (h : Held)
    → IsNoHelp (plain_word rules waiting word h).1
a_plain_word rules idle word h = tt
a_plain_word rules (option id) word h = tt
a_plain_word rules positional word h = tt

a_flag : (rules : List Rule) (waiting : Waiting) (word : Text) (h : Held) (outcome : Outcome)
    → IsNoHelp (after_flag rules waiting word h outcome).1
a_flag rules waiting word h done = tt
a_flag rules waiting word h (waits id) = tt
a_flag rules waiting word h plain = a_plain_word rules waiting word h
a_flag rules waiting word h refused = a_plain_word rules waiting word h

a_short_flag : (rules : List Rule) (waiting : Waiting) (word : Text) (flags : Option Text)
    (h : Held) → IsNoHelp (short_or_plain rules waiting word flags h).1
a_short_flag rules waiting word (Some flags) h =
    a_flag rules waiting word (bundle rules flags h).0 (bundle rules flags h).1
a_short_flag rules waiting word None h = a_plain_word rules waiting word h

a_long_flag : (rules : List Rule) (waiting : Waiting) (word : Text)
    (name : Option (Text × Option Text)) (h : Held)
    → IsNoHelp (long_or_other rules waiting word name h).1
a_long_flag rules waiting word (Some p) h =
    a_flag rules waiting word (long_met rules (arg_by_long rules p.0) p.1 h).0
    (long_met rules (arg_by_long rules p.0) p.1 h).1
a_long_flag rules waiting word None h = a_short_flag rules waiting word (short_of word) h

no_command : (rules : List Rule) (waiting : Waiting) (position : ℕ) (word : Text) (h : Held)
    (ends : Bool) → IsNoHelp (if ends then (h, trailing position)
    else long_or_other rules waiting word (long_of word) h).1
no_command rules waiting position word h true = tt
no_command rules waiting position word h false = a_long_flag rules waiting word (long_of word) h

-- a fault is told at `help`
no_help : (is_help is_off : Bool) → is_off ≡ false
    → ◌≡◌ {A = Kinds}
    (if is_help && not is_off then kind.DisplayHelp ∷ kind.InvalidSubcommand ∷ []
    else []) [] → is_help ≡ false
no_help false is_off off e = refl
no_help true true off e = off
no_help true false off e = absurd (let h = e in cc)

a_command : (s : Shape) (met : Option Text) (waiting : Waiting) (position : ℕ) (word : Text)
    (h : Held) → s.disable_help_subcommand ≡ false → other_fault s met word h ≡ []
    → IsNoHelp (subcommand_or_other s.rules met waiting position word h).1
a_command s (Some name) waiting position word h on e =
    no_help (bytes_eq name (codes "help")) s.disable_help_subcommand on e
a_command s None waiting position word h on e =
    no_command s.rules waiting position word h (bytes_eq word (45 ∷ 45 ∷ []))

a_word : (s : Shape) (names : Names) (w : Walk) (word : Text) (is_trailing : Bool)
    → s.disable_help_subcommand ≡ false
    → word_fault s names is_trailing w.waiting word w.held ≡ []
    → IsNoHelp (word_met s.rules names is_trailing w.waiting w.position word w.held).1
a_word s names w word true on e = tt
a_word s names w word false on e =
    a_command s (subcommand_met names w.waiting word) w.waiting w.position word w.held on e

-- ---- the walk does not stop at it

abbrev IsNoStop : Option (Text × List Text) → Type 0
IsNoStop stop = IfSome stop (λ p. bytes_eq p.0 (codes "help") ≡ false)

to_argument : (rules : List Rule) (a : Option Rule) (word : Text) (w : Walk) (h : Held)
    → w.stopped ≡ None → IsNoStop (to_positional rules a word w h).stopped
to_argument rules None word w h n = subst IsNoStop (sym n) tt
to_argument rules (Some a) word w h n = tt

a_step : (rules : List Rule) (word : Text) (w : Walk) (h : Held) (step : Step)
    → w.stopped ≡ None → IsNoHelp step → IsNoStop (after_step rules word w h step).stopped
a_step rules word w h (next waiting) n g = subst IsNoStop (sym n) tt
a_step rules word w h (trailing position) n g = subst IsNoStop (sym n) tt
a_step rules word w h (subcommand name) n g = g
a_step rules word w h value n g = to_argument rules (arg_by_index rules w.position) word w h n

-- neither the first told a fault nor the second
both_empty : (a b : Kinds) → or_else a b ≡ [] → (a ≡ []) × (b ≡ [])
both_empty [] b e = (refl, e)
both_empty (k ∷ ks) b e = absurd (let h = e in cc)

a_turn : (s : Shape) (names : Names) (w : Walk) (word : Text)
    (stop : Option (Text × List Text)) → w.stopped ≡ stop
    → s.disable_help_subcommand ≡ false
    → turn_fault s names w word ≡ [] × IsNoStop stop
    → IsNoStop (walked_from s.rules names stop w word).stopped
a_turn s names w word (Some p) is on e = e.1
a_turn s names w word None is on e =
    let met = word_met s.rules names w.is_trailing w.waiting w.position word w.held in
    let said = word_fault s names w.is_trailing w.waiting word w.held in
    let faults = or_else said (step_fault s w.position met.0 met.1) in
    let none : faults ≡ [] =
    subst (λ stop. ◌≡◌ {A = Kinds} (if is_some stop then [] else faults) []) is e.0 in
    a_step s.rules word w met.0 met.1 is
    (a_word s names w word w.is_trailing on
    (both_empty said (step_fault s w.position met.0 met.1) none).0)

a_walk : (s : Shape) (names : Names) (w : Walk) (words : List Text)
    → s.disable_help_subcommand ≡ false → walk_fault s names w words ≡ []
    → IsNoStop w.stopped
    → IsNoStop (fold (walked s.rules names) w words).stopped
unfolding walk_fault walked
a_walk s names w [] on e g = g
a_walk s names w (word ∷ rest) on e g =
    let after = walked s.rules names w word in
    let both = both_empty (turn_fault s names w word) (walk_fault s names after rest) e in
    a_walk s names after rest on both.1 (a_turn s names w word w.stopped refl on (both.0, g))

-- ---- it stops at a command of the program

-- a command is wanted
one_wanted : (has wants_help is_wanted wants_argument : Bool) → is_wanted ≡ true
    → check_kinds (not has && wants_help) (not has && is_wanted) wants_argument ≡ []
    → has ≡ true
one_wanted true wants_help is_wanted wants_argument is e = refl
one_wanted false true is_wanted wants_argument is e = absurd (let h = e in cc)
one_wanted false false true wants_argument is e = absurd (let h = e in cc)
one_wanted false false false wants_argument is e = is

or_later : (a b : Bool) → b ≡ true → (a || b) ≡ true
or_later true b e = refl
or_later false b e = e

-- it is one of these, and not the last
one_before : (name : Text) (words : List Text) (shapes : List Shape) (last : Shape)
    {found : Text × List Row} → answers_to name (label_of last) ≡ false
    → option_map (λ s. rows_at s words)
    (find (λ s. answers_to name (label_of s)) (shapes ++ last ∷ [])) ≡ Some found
    → list_any (λ s. bytes_eq found.0 s.name) shapes ≡ true
one_before name words [] last {found = found} apart e =
    let none : ◌≡◌ {A = Option (Text × List Row)} None (Some found) =
    subst (λ b. option_map (λ s. rows_at s words) (cond b (Some last) None) ≡ Some found)
    apart e in absurd (let h = none in cc)
one_before name words (s ∷ rest) last {found = found} apart e =
    here (answers_to name (label_of s)) (one_before name words rest last apart) e
  where
    here : (b : Bool)
        → (option_map (λ x. rows_at x words)
        (find (λ x. answers_to name (label_of x)) (rest ++ last ∷ [])) ≡ Some found
        → list_any (λ x. bytes_eq found.0 x.name) rest ≡ true)
        → option_map (λ x. rows_at x words)
        (cond b (Some s) (find (λ x. answers_to name (label_of x)) (rest ++ last ∷ [])))
        ≡ Some found
        → (bytes_eq found.0 s.name || list_any (λ x. bytes_eq found.0 x.name) rest) ≡ true
    here true later h =
        let is : found.0 ≡ s.name = cc in
        subst (λ b. (b || list_any (λ x. bytes_eq found.0 x.name) rest) ≡ true)
        (sym ((bytes_eq-Decides found.0 s.name).1 is)) refl
    here false later h =
        or_later (bytes_eq found.0 s.name) (list_any (λ x. bytes_eq found.0 x.name) rest) (later h)

not_the_last : (name : Text) → bytes_eq name (codes "help") ≡ false
    → answers_to name (codes "help", []) ≡ false
not_the_last name apart = here (bytes_eq (codes "help") name) refl
  where
    here : (b : Bool) → bytes_eq (codes "help") name ≡ b
        → (b || list_any (λ alias. bytes_eq alias name) []) ≡ false
    here false e = refl
    here true e =
        let same = sym ((bytes_eq-Decides (codes "help") name).0 e) in
        absurd (true≢false (sym ((bytes_eq-Decides name (codes "help")).1 same) ∙ apart))

-- these are a command's subcommands, of which `help` is the last
record HasHelpLast (a : App) (shapes : List Shape) : Type 0 where
  last : Shape
  all : a.subs ≡ shapes ++ last ∷ []
  is_help : label_of last ≡ (codes "help", [])
  is_on : a.top.disable_help_subcommand ≡ false

a_stop : {a : App} {shapes : List Shape} (h : HasHelpLast a shapes)
    (stop : Option (Text × List Text)) → IsNoStop stop → is_some (entered a stop) ≡ true
    → IsSomeAnd (entered a stop)
    (λ found. list_any (λ s. bytes_eq found.0 s.name) shapes ≡ true)
a_stop h None apart some = absurd (true≢false (sym some))
a_stop {a = a} {shapes = shapes} h (Some p) apart some = here (entered a (Some p)) refl some
  where
    here : (found : Option (Text × List Row)) → entered a (Some p) ≡ found
        → is_some found ≡ true
        → IsSomeAnd found (λ it. list_any (λ s. bytes_eq it.0 s.name) shapes ≡ true)
    here None e some = absurd (true≢false (sym some))
    here (Some it) e some =
        one_before p.0 p.1 shapes h.last
        (ap (answers_to p.0) h.is_help ∙ not_the_last p.0 apart)
        (subst (λ all. option_map (λ s. rows_at s p.1)
        (find (λ s. answers_to p.0 (label_of s)) all) ≡ Some it) h.all e)

-- a command that wants one of its subcommands, and takes the words
a_subcommand : (a : App) {shapes : List Shape} (words : List Text) → HasHelpLast a shapes
    → a.top.subcommand_required ≡ true → built_fault a nothing_held words ≡ []
    → IsSomeAnd (entered a (walk a.top.rules (names_of a) nothing_held words).stopped)
    (λ found. list_any (λ s. bytes_eq found.0 s.name) shapes ≡ true)
a_subcommand a words h wanted e =
    let end = walk a.top.rules (names_of a) nothing_held words in
    let has = is_some (entered a end.stopped) in
    let checks = check_fault a.top (finished a.top.rules end.held) has in
    let defaults = defaults_fault (settled a.top.rules end.held).rows a.top.rules in
    let settling = settle_fault a.top.rules a.top.args_override_self end.held in
    let below = entered_fault a end.stopped in
    let walking = walk_fault a.top (names_of a) (walk_from nothing_held) words in
    let first =
    both_empty walking (or_else below (or_else settling (or_else defaults checks))) e in
    let second = both_empty below (or_else settling (or_else defaults checks)) first.1 in
    let third = both_empty settling (or_else defaults checks) second.1 in
    let fourth = both_empty defaults checks third.1 in
    a_stop h end.stopped
    (a_walk a.top (names_of a) (walk_from nothing_held) words h.is_on first.0 tt)
    (one_wanted has _ _ _ wanted fourth.1)

-- the program's own commands, as they are built
abbrev built_commands : List Shape
built_commands =
    map (λ s. built_leaf (inherited (with_leaf_noted (marked_built program.top)) s)) program.subs

help_is_last : HasHelpLast (built program) built_commands
unfolding program
help_is_last = record {
  last = built_leaf help_shape;
  all = refl;
  is_help = refl;
  is_on = refl;
}

pub command_known : (words : List Text) → refusals_of words ≡ []
    → IsSomeAnd (command_in words) (λ found. is_command found.0 ≡ true)
unfolding refusals_of command_in program
command_known words e =
    a_subcommand (built program) (argument_words program words) help_is_last refl e

abbrev IsKnown : Option (Text × List Row) → Type 0
IsKnown found = IsSomeAnd found (λ it. is_command it.0 ≡ true)

-- what the words name is such a command
pub none_named : (words : List Text) (found : Option (Text × List Row))
    → refusals_of words ≡ [] → found ≡ command_in words
    → None ≡ option_map (λ it. it.1) found → ⊥
none_named words None taken is none = subst IsKnown (sym is) (command_known words taken)
none_named words (Some it) taken is none = absurd cc

module _ (words : List Text) {name : Text} {rows : List Row} (taken : refusals_of words ≡ [])
    (is : Some (name, rows) ≡ command_in words) where
  pub name_known : is_command name ≡ true
  name_known = subst IsKnown (sym is) (command_known words taken)

  -- and its line is that of the words
  pub line_named : (told : Result Line CommandFault)
      → MatchResult told (IsLine name rows) (IsFault name rows)
      → MatchResult told (IsLineIn words) (IsFaultIn words)
  line_named (Ok line) h = (taken, subst (λ o. IsLineOf o line) is h)
  line_named (Err fault) h = inr (taken, subst (λ o. IsFaultOf o fault) is h)
