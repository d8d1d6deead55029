-- What stores are written as, and what they are read from.
use Rattle.std.specs.Prelude.{◌≡◌, ℕ, List, [], ◌∷◌, ◌++◌, Option, ⊤, Result, Err, IfSome}
use Rattle.std.specs.Io.KnownBytes.{Consumes}
use Rattle.flute_join.specs.declared.refusal.JoinRefusal.{JoinRefusal}
use Rattle.flute_join.specs.declared.refusal.JoinRefusal.TheVariants as join
use Rattle.flute_parts.specs.Facts.{Same}
use Rattle.flute_parts.specs.Limits.{Over}
use Rattle.flute_parts.specs.declared.fact.Fact.{Fact}
use Rattle.flute_journal.specs.declared.fault.LoadFault.{LoadFault}
use Rattle.flute_journal.specs.declared.fault.LoadFault.TheVariants.{Read, Full, OutOfMemory}
use Rattle.flute_journal.specs.Format.{without_end_in}
use Rattle.flute_journal.specs.Input.{Fails}
use Rattle.flute_journal.specs.Frame.{AreItems}
use Rattle.flute_journal.specs.Journal.{IsJournalWithin, journal_frame}
use Rattle.flute_journal.specs.Whole.{ReadsPart, StopsAfter}

-- the bytes are a journal of the values of these facts, with at most so many entries
abbrev pub IsJournalOf : ℕ → List ℕ → List Fact → Type 0
IsJournalOf limit bytes facts =
    (entries : List Fact) × IsJournalWithin limit bytes entries × Same facts entries

-- the bytes begin as a journal with these entries does, at most so many
pub record BeginsWith (limit : ℕ) (bytes : List ℕ) (entries : List Fact) : Type 0 where
  pub are_items : AreItems journal_frame limit entries
  pub rest : List ℕ
  pub whole : bytes ≡ without_end_in are_items.told entries ++ rest

-- the bytes begin with entries that pass the limits of a store
abbrev pub BeginsOver : ℕ → ℕ → ℕ → ℕ → List ℕ → Type 0
BeginsOver sessions objects symbols limit bytes =
    (entries : List Fact) × BeginsWith limit bytes entries × Over entries sessions objects symbols

-- why the bytes that were left are not read into a store: a fault after entries within its limits,
-- or entries that pass them; memory may run out at any entry
abbrev pub IsLoadFault : ℕ → ℕ → ℕ → ℕ → Option (List ℕ) → Option (List ℕ) → LoadFault → Type 0
IsLoadFault sessions objects symbols limit old new (Read f) =
    (entries : List Fact) × (¬ Over entries sessions objects symbols)
    × StopsAfter limit entries old new f
IsLoadFault sessions objects symbols limit old new Full =
    IfSome old (BeginsOver sessions objects symbols limit)
IsLoadFault sessions objects symbols limit old new OutOfMemory = ⊤

-- entries were read of a journal, of which the last passes the limits of a store, and no byte
-- after them
pub record ReadsOver (sessions objects symbols limit : ℕ) (old new : Option (List ℕ)) : Type 0 where
  pub within : List Fact
  pub last : Fact
  pub are_items : AreItems journal_frame limit (within ++ last ∷ [])
  pub read : Consumes old new (without_end_in are_items.told (within ++ last ∷ []))
  pub none_over : ¬ Over within sessions objects symbols
  pub over : Over (within ++ last ∷ []) sessions objects symbols

-- what was read where no store could be: at `Full` the entries up to the one that passes
-- the limits; else some entries, and no byte after one more
abbrev pub ReadsNoMore : ℕ → ℕ → ℕ → ℕ → Option (List ℕ) → Option (List ℕ) → LoadFault → Type 0
ReadsNoMore sessions objects symbols limit old new Full =
    ReadsOver sessions objects symbols limit old new
ReadsNoMore sessions objects symbols limit old new f =
    (entries : List Fact) × ReadsPart limit old new entries

-- the fault that a store's refusal is
abbrev pub refused : JoinRefusal → LoadFault
refused join.Full = Full
refused join.OutOfMemory = OutOfMemory

-- how often the source failed in a call that gave this: only if it could not be read
abbrev pub FailsToLoad : {T : Type 0} → ℕ → ℕ → Result T LoadFault → Type 0
FailsToLoad {T} old new (Err (Read f)) = Fails {T = T} old new (Err f)
FailsToLoad old new _ = new ≡ old
