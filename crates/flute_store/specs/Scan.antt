-- A scan over what is held of an object, in the order of a journal, along with the symbols of its
-- partition.
use Rattle.std.specs.Prelude.{◌≡◌, ℕ, ◌<◌, List, [], ◌∷◌, ◌++◌, length, take}
use Rattle.std.specs.Prelude.{flat_map, Contains, Option, Some, None, IfSome, option_map}
use Rattle.std.specs.Borrow.{Bor}
use Rattle.std.specs.List.{AllByRecursion}
use Rattle.flute_parts.specs.Information.{Information}
use Rattle.flute_parts.specs.Addresses.{info_address, symbol_address, address}
use Rattle.flute_parts.specs.Facts.{fact_at, IsRising}
use Rattle.flute_parts.specs.Partition.{symbol_id, ids}
use Rattle.flute_parts.specs.declared.key.Key.{Key}
use Rattle.flute_parts.specs.declared.symbol_id.SymbolId.{SymbolId}
use Rattle.flute_parts.specs.declared.fact.Fact.{Fact}
use Rattle.flute_parts.specs.declared.fact.Fact.TheVariants.{Info, Symbol, SymbolConflict}
use Rattle.flute_store.specs.declared.gap.Gap.{Gap}
use Rattle.flute_store.specs.declared.turn.Turn.{Turn}
use Rattle.flute_store.specs.Objects.{Whole, IsHeld, object, gaps, value_bytes}
use Rattle.flute_store.specs.Extract.{IsNotWhole}

-- what a scan has passed and given
pub record Scanned : Type 0 where
  pub key : Key
  pub info : Information
  -- the information and the held symbols that were passed
  pub facts : List Fact
  -- the gaps that were given
  pub given : List Gap
  -- the values of the symbols of the partition up to the last one passed, if each of them
  -- is held as one fitting value
  pub bytes : Option (List ℕ)
  -- what comes next, if a gap or the end showed it: the fact of a symbol, or that none is left
  pub coming : Option (Option Fact)
  -- it falls with each gap
  pub ahead : ℕ

-- what is held of a symbol: its one value, or that two values came
abbrev pub next_fact : Key → SymbolId × Option (Bor (List ℕ)) → Fact
next_fact key (id, Some bytes) = Symbol key id bytes.now
next_fact key (id, None) = SymbolConflict key id

-- the fact of the symbol that comes next, if one does
abbrev pub coming_fact : Key → Option (SymbolId × Option (Bor (List ℕ))) → Option Fact
coming_fact key None = None
coming_fact key (Some next) = Some (next_fact key next)

-- what comes next is after what was passed
abbrev pub CanFollow : Scanned → Option (SymbolId × Option (Bor (List ℕ))) → Type 0
CanFollow s None = Unit {0}
CanFollow s (Some next) = IsRising (s.facts ++ next_fact s.key next ∷ [])

-- what comes next is what was shown
abbrev pub CanCome : Scanned → Option (SymbolId × Option (Bor (List ℕ))) → Type 0
CanCome s next = IfSome s.coming (λ coming. coming ≡ coming_fact s.key next)

-- the first of these facts is what comes next of the object, or none of them is of it
abbrev pub ComeNext : Key → Option (SymbolId × Option (Bor (List ℕ))) → List Fact → Type 0
ComeNext key (Some next) rest = (others : List Fact) × (rest ≡ next_fact key next ∷ others)
ComeNext key None rest = AllByRecursion (λ f. (address f).key ≡ key → ⊥) rest

-- all facts: those that were passed are a part of them without a gap, and this comes
-- next of the object
pub record Follows (s : Scanned) (next : Option (SymbolId × Option (Bor (List ℕ))))
    (F : List Fact) : Type 0 where
  pub before : List Fact
  pub rest : List Fact
  pub all : F ≡ before ++ (s.facts ++ rest)
  pub rising : IsRising F
  pub come : ComeNext s.key next rest

-- the bytes are the values of the first symbols of the partition, each held as one fitting value
pub record IsFirstPart (F : List Fact) (key : Key) (info : Information)
    (bytes : List ℕ) : Type 0 where
  pub first : List SymbolId
  pub others : List SymbolId
  pub all : ids info ≡ first ++ others
  pub held : (id : SymbolId) → Contains first id → IsHeld F key info id
  pub values : bytes ≡ flat_map (λ id. value_bytes (fact_at F (symbol_address key id))) first

-- a gap was given, and nothing passed; if it is the first one, it shows that the object is not
-- whole
pub record GaveGap (old : Scanned) (next : Option (SymbolId × Option (Bor (List ℕ)))) (gap : Gap)
    (new : Scanned) : Type 0 where
  pub now : new
      ≡ record old {
        given = old.given ++ gap ∷ [];
        bytes = None;
        coming = Some (coming_fact old.key next);
        ahead = new.ahead;
      }
  pub fewer : new.ahead < old.ahead
  pub first :
      IfSome old.bytes (λ bytes. (F : List Fact) → Follows old next F
      → IsNotWhole F old.key (symbol_id gap.sbn gap.first))

-- what came next was passed
pub record PassedNext (old : Scanned) (next : SymbolId × Option (Bor (List ℕ)))
    (bytes : Option (List ℕ)) (new : Scanned) : Type 0 where
  pub now : new
      ≡ record old {
        facts = old.facts ++ next_fact old.key next ∷ [];
        bytes = bytes;
        coming = None;
        ahead = new.ahead;
      }

-- all gaps were given: these are the gaps of the object; if it has none, its bytes are known
pub record GaveAll (s : Scanned) (F : List Fact) : Type 0 where
  pub information : fact_at F (info_address s.key) ≡ Some (Info s.key s.info)
  pub gaps_are : gaps F s.key s.info ≡ s.given
  pub whole :
      IfSome s.bytes
      (λ bytes. Whole F s.key s.info × (object F s.key s.info ≡ take s.info.transfer_length bytes))

-- the bytes of a symbol; none if it is in conflict
abbrev pub value_of : SymbolId × Option (Bor (List ℕ)) → List ℕ
value_of (id, Some bytes) = bytes.now
value_of (id, None) = []

-- what a turn did
abbrev pub Turned : Scanned → Option (SymbolId × Option (Bor (List ℕ))) → Turn → Scanned → Type 0
Turned old next (Turn.Gap gap) new = GaveGap old next gap new
Turned old (Some next) Turn.Fitting new =
    PassedNext old next (option_map (λ bytes. bytes ++ value_of next) old.bytes) new
Turned old (Some next) Turn.Passed new = PassedNext old next old.bytes new
Turned old (Some next) Turn.Wanted new =
    PassedNext old next None new
    × IfSome old.bytes
    (λ bytes. (F : List Fact) → Follows old (Some next) F → IsNotWhole F old.key next.0)
Turned old None Turn.End new =
    (new ≡ record old { coming = Some None; ahead = new.ahead })
    × ((F : List Fact) → Follows new None F → GaveAll new F)
Turned old next turn new = ⊥

-- a scan of which nothing was passed but the information
abbrev pub at_begin : Key → Information → Scanned
at_begin key info = record {
  key = key;
  info = info;
  facts = Info key info ∷ [];
  given = [];
  bytes = Some [];
  coming = None;
  ahead = length (ids info);
}

-- the bytes are a prefix of the object, in all facts in which those that were passed follow one
-- another
abbrev pub PartOf : Scanned → Type 0
PartOf s =
    IfSome s.bytes (λ bytes. (F before rest : List Fact) → F ≡ before ++ (s.facts ++ rest)
    → IsRising F → IsFirstPart F s.key s.info bytes)
