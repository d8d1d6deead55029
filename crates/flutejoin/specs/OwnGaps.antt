-- What is asked for by the lines that `gaps` printed of the asker's own journal.
use Rattle.std.specs.Prelude.{◌≡◌, ◌⊎◌, ⊤, ℕ, Bool, true, false, List, [], ◌∷◌, ◌++◌, Option, Some}
use Rattle.std.specs.Prelude.{None, Contains}
use Rattle.std.specs.Io.KnownBytes.{Appends}
use Rattle.flute_parts.specs.Addresses.{address, info_address}
use Rattle.flute_parts.specs.Facts.{Below, fact_at}
use Rattle.flute_parts.specs.Partition.{ids}
use Rattle.flute_parts.specs.declared.address.Part.{Part}
use Rattle.flute_parts.specs.declared.address.Part.TheVariants.{Info as InfoPart}
use Rattle.flute_parts.specs.declared.address.Part.TheVariants.{Symbol as SymbolPart}
use Rattle.flute_parts.specs.declared.fact.Fact.{Fact}
use Rattle.flute_parts.specs.declared.fact.Fact.TheVariants.{Info}
use Rattle.flute_parts.specs.declared.key.Key.{Key}
use Rattle.flute_streams.specs.Selections.{selects}
use Rattle.flute_streams.specs.declared.choice.selection.Selection.{Selection}
use Rattle.flutejoin.specs.Compare.{ComparesJournals}
use Rattle.flutejoin.specs.CompareLines.{are_same}
use Rattle.flutejoin.specs.FillLists.{is_info}
use Rattle.flutejoin.specs.Gaps.{ListsJournal}
use Rattle.flutejoin.specs.Laws.{IsAnswer}
use Rattle.flutejoin.specs.Limits.{Limits}
use Rattle.flutejoin.specs.Styles.{printed}
use Rattle.flutejoin.specs.declared.fill.asking.Asking.TheVariants.{All as AskAll}
use Rattle.flutejoin.specs.declared.lines.form.Form.TheVariants.{Plain}
use Rattle.flutejoin.specs.declared.lines.style.Style.{Style}

-- ---- what the asker has

-- a part of an object is asked for, by what is held of its information, and of the part
abbrev pub IsAsked : Option Fact → Option Fact → Part → Type 0
IsAsked None held part = ⊤
IsAsked (Some (Info key info)) held (SymbolPart id) = (held ≡ None) × Contains (ids info) id
IsAsked (Some (Info key info)) held InfoPart = ⊥
IsAsked (Some conflict) held part = is_info part ≡ false

-- the information that is held of the object of a fact
abbrev pub information_for : List Fact → Fact → Option Fact
information_for held f = fact_at held (info_address (address f).key)

-- a fact is asked for, by what is held
abbrev pub AsksFor : List Fact → Fact → Type 0
AsksFor held f = IsAsked (information_for held f) (fact_at held (address f)) (address f).part

-- the value of each fact is held, or asked for
abbrev pub AreHeldOrAsked : List Fact → List Fact → Type 0
AreHeldOrAsked held facts =
    (f : Fact) → Contains facts f → Below (f ∷ []) held ⊎ AsksFor held f

-- by what is held of the information of an object, a part is not outside a known partition
abbrev pub IsWithin : Option Fact → Part → Type 0
IsWithin (Some (Info key info)) (SymbolPart id) = Contains (ids info) id
IsWithin information part = ⊤

-- no fact at whose address nothing is held is outside a partition that is known
abbrev pub AreWithin : List Fact → List Fact → Type 0
AreWithin held facts = (f : Fact) → Contains facts f → fact_at held (address f) ≡ None
    → IsWithin (information_for held f) (address f).part

-- ---- how the asker asks

-- each object has a line, and each of its gaps, in words
pub record IsPlain (style : Style) : Type 0 where
  pub conflicts : style.conflicts ≡ false
  pub summary : style.summary ≡ false
  pub ranges : style.ranges ≡ false
  pub form : style.form ≡ Plain

-- whether a fact is taken, its object tells
pub record TakesObjects (takes : Fact → Bool) : Type 0 where
  pub takes_key : Key → Bool
  pub by_key : (f : Fact) → takes f ≡ takes_key (address f).key

-- these lines were printed of the journal, or of some of its objects, after whatever was there
-- before
pub record IsGaps (journal lines : List ℕ) : Type 0 where
  pub most : Limits
  pub picks : Fact → Bool
  pub takes_objects : TakesObjects picks
  pub style : Style
  pub plain : IsPlain style
  pub before : List ℕ
  pub lists : ListsJournal most picks (Some journal)
      (λ objects. Appends (Some before) (Some (before ++ lines)) (printed style objects))

-- by such lines of the asker's journal `fill` wrote these bytes of another
pub record IsAnswerTo (asker journal written : List ℕ) : Type 0 where
  pub lines : List ℕ
  pub count : ℕ
  pub gaps : IsGaps asker lines
  pub answer : IsAnswer AskAll journal lines written count

-- ---- what `compare` finds

-- nothing differs of all that two journals contain
pub record AreAlike (first second : List ℕ) : Type 0 where
  pub choice : Selection
  pub other : Selection
  pub all : (f : Fact) → selects choice f ≡ true
  pub others : (f : Fact) → selects other f ≡ true
  pub compares : ComparesJournals choice other (Some first) (Some second)
      (λ rows. are_same rows ≡ true)
