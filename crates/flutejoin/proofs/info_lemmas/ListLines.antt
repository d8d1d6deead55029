-- info --list: a list of information, read line by line (specs/InformationLines: ListTells).
use Rattle.std.proofs.Common.{rules}
use Rattle.std.proofs.Common.{◌≡◌, ◌⊎◌, ℕ, ◌+◌, ◌-◌, ◌^◌, List, [], ◌∷◌, ◌++◌, Option, Some, None}
use Rattle.std.proofs.Common.{Err, inl, inr, refl}
use Rattle.std.specs.Prelude.{IfSome, ⊤}
use Rattle.flute_journal.specs.declared.fault.ReadFault.TheVariants.{Read}
use Rattle.flute_parts.specs.Facts.{Same}
use Rattle.flute_parts.specs.Information.{Information, info_fault}
use Rattle.flute_parts.specs.declared.fact.Fact.{Fact}
use Rattle.flute_parts.specs.declared.fact.Fact.TheVariants.{Info}
use Rattle.flute_parts.specs.declared.key.Key.{Key}
use Rattle.flute_parts.proofs.Public.{Below-from_Same, Over-below, Same-append, Same-itself, Same-trans}
use Rattle.flutejoin.specs.NextWords.{GivesWords}
use Rattle.flutejoin.specs.InformationLines.{AddingFails, HoldsList, LineTells, ListFails, Shows}
use Rattle.flutejoin.specs.InformationLines.{bad, invalid, no_line}
use Rattle.flutejoin.specs.InformationLines.{no_memory, no_memory_for, no_room, not_valid, over, shown}
use Rattle.flutejoin.specs.JoinParts.{NamesOnly}
use Rattle.flutejoin.specs.Limits.{Limits}
use Rattle.flutejoin.specs.ListedLines.{HasNoEnd, ListTells}
use Rattle.flutejoin.specs.Show.{FailsToRead}
use Rattle.flutejoin.specs.declared.command_fault.CommandFault.{CommandFault}
use Rattle.flutejoin.specs.declared.command_fault.CommandFault.TheVariants.{Input, ListLine}
use Rattle.flutejoin.specs.declared.lines.text.Text.{Text}
use Rattle.flutejoin.proofs.lines_lemmas.ReadLines.{bad_line, begins, beyond, has_line, read_all}
use Rattle.flutejoin.proofs.lines_lemmas.ReadLines.{read_more, read_nothing, without_end}

-- the fact that a line contains
pub tells_shown : (words : List ℕ) (key : Key) (info numbers : Information) → Shows words key
    numbers → info ≡ numbers → info_fault info ≡ None → LineTells words (Info key info ∷ [])
tells_shown words key info _ shows e none = shown key info
    (shows.key_is, (rw e shows.numbers.1, none)) (rw e shows.words_are) refl

pub begun : (all : Option (List ℕ)) (told : List Fact) → told ≡ [] → HoldsList all all 1 told
begun all _ none = record {
  facts = [];
  read = read_nothing _ _;
  content = rw none (Same-itself []);
}

abbrev ReadsNoList : Limits → Option (List ℕ) → CommandFault → Type 0
ReadsNoList most all fault =
    (fault ≡ Input 2 Read) ⊎ IfSome all (λ bytes. ListFails most bytes fault)

-- what is so of known bytes
each : (all : Option (List ℕ)) (P Q : List ℕ → Type 0) → ((bytes : List ℕ) → P bytes → Q bytes)
    → IfSome all P → IfSome all Q
each None P Q f h = tt
each (Some bytes) P Q f h = f bytes h

module _ {all left : Option (List ℕ)} {number : ℕ} {told : List Fact}
    (h : HoldsList all left number told) where
  pub more : (new : Option (List ℕ)) (words : List ℕ) (now : List Fact) → GivesWords left new
      (Some words) → (facts : List Fact) × LineTells words facts × Same now (told ++ facts) →
      HoldsList all new (number + 1) now
  more new words now gave added = record {
    facts = h.facts ++ added.0;
    read = read_more _ h.read _ _ _ gave.1 gave.0 added.1;
    content = Same-trans _ _ _ added.2 (Same-append _ _ _ _ h.content (Same-itself _));
  }

  pub all_told : (new : Option (List ℕ)) → GivesWords left new None → IfSome all
      (λ bytes. (facts : List Fact) × ListTells LineTells bytes facts × Same told facts)
  all_told new gave = each all (λ bytes. ListTells LineTells bytes h.facts)
      (λ bytes. (facts : List Fact) × ListTells LineTells bytes facts × Same told facts)
      (λ bytes t. (h.facts, t, h.content)) (read_all LineTells h.read gave.0)

  module _ (most : Limits) where
    pub no_line_left : (fault : CommandFault) → (fault ≡ Input 2 Read)
        ⊎ ((fault ≡ ListLine number) × IfSome left HasNoEnd) → ReadsNoList most all fault
    no_line_left _ (inl read) = inl read
    no_line_left fault (inr (is, end)) = inr (each _ _ _
        (λ bytes b. bad number is b) (without_end _ h.read _ end))

    pub not_told : (new : Option (List ℕ)) (words : List ℕ) (fault : CommandFault) → GivesWords left
        new (Some words) → AddingFails most told number words fault → ReadsNoList most all fault
    not_told new words fault gave (no_line is none) = inr
        (each _ _ _ (λ bytes b. bad number is b) (bad_line _ h.read _ _ _ gave.1 gave.0 none))
    not_told new words fault gave (not_valid why is none) = inr (each _ _ _
        (λ bytes l. invalid number why is l) (has_line _ h.read _ _ _ gave.1 gave.0 none))
    not_told new words fault gave (no_room facts is tells full) = inr (each _ _ _ (λ bytes l. over
        is (record {
          number = number + 1;
          facts = h.facts ++ facts;
          rest = l.0;
          begins = l.1;
          over = Over-below _ _ _ _ _
              (Below-from_Same _ _ (Same-append _ _ _ _ h.content (Same-itself _))) full;
        })) (begins _ (read_more LineTells h.read new words facts gave.1 gave.0 tells)))
    not_told new words fault gave (no_memory_for is) = inr (each all (λ bytes. ⊤)
        (λ bytes. ListFails most bytes fault) (λ bytes t. no_memory is) (search rules))

    pub too_many : number ≡ 2 ^ 64 → ReadsNoList most all (ListLine (2 ^ 64 - 1))
    too_many last = inr (each _ _ _ (λ bytes b. bad (2 ^ 64 - 1) refl b) (beyond _ h.read _ last))

-- how often its source failed
pub no_line_fails : (old mid new : ℕ) (fault : CommandFault) → mid ≡ old → FailsToRead
    {T = Option Text} mid new (Err fault) → FailsToRead {T = List Fact} old new (Err fault)
no_line_fails old mid new fault same f = search rules

pub quiet : {most : Limits} {told : List Fact} (old new number : ℕ) (words : List ℕ)
    (fault : CommandFault) → new ≡ old → AddingFails most told number words fault
    → FailsToRead {T = List Fact} old new (Err fault)
quiet old new number words fault same f = search rules

-- only the second input is reported
pub names_fails : {most : Limits} {told : List Fact} (number : ℕ) (words : List ℕ)
    (fault : CommandFault) → AddingFails most told number words fault → NamesOnly 2 fault
names_fails number words fault f = search rules
