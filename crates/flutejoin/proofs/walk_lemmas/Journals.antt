-- walk_objects: a journal whose objects are told as it is read (specs/Gaps).
use Rattle.std.proofs.Common.{◌≡◌, ℕ, Bool, true, List, [], ◌∷◌, ◌++◌, Option, None}
use Rattle.std.proofs.Common.{Err, inl, inr, refl, length, arith, ap, ◌∙◌, ◌-◌, ◌<◌, subst}
use Rattle.std.proofs.Common.{length-append}
use Rattle.std.specs.Prelude.{filter}
use Rattle.flute_parts.specs.Facts.{IsRising}
use Rattle.flute_parts.specs.declared.fact.Fact.{Fact}
use Rattle.flute_parts.specs.declared.tally.Tally.{Tally}
use Rattle.flute_journal.specs.Readers.{source_of, state_of}
use Rattle.flute_journal.specs.Framing.{state_at}
use Rattle.flute_journal.specs.JournalFraming.{journal_framing}
use Rattle.flute_journal.specs.declared.format.version.Version.{Version}
use Rattle.flute_journal.proofs.Public.{entries_at}
use Rattle.flutejoin.specs.Progress.{Progress}
use Rattle.flutejoin.specs.Gaps.{GapsFail, ListsJournal, ReadsWithin}
use Rattle.flutejoin.specs.NextEntry.{HasRead, HoldsOn, NotRead}
use Rattle.flute_streams.specs.JournalStreams.{JournalState, reading_of}
use Rattle.flute_journal.specs.HeldEntries.{spelled_of}
use Rattle.flutejoin.proofs.HeldEntries.{let_go_after}
use Rattle.std.specs.Io.KnownBytes.{Consumes}
use Rattle.flutejoin.specs.Limits.{Limits, at_most}
use Rattle.flutejoin.specs.declared.command_fault.CommandFault.TheVariants.{CannotWrite}
use Rattle.flutejoin.specs.declared.command_fault.CommandFault.TheVariants.{OutOfMemory}
use Rattle.flutejoin.specs.Packet.{write_failures}
use Rattle.flutejoin.specs.Show.{FailsToRead}
use Rattle.flutejoin.specs.Told.{AreTold, Told}
use Rattle.flutejoin.specs.declared.command_fault.CommandFault.{CommandFault}
use Rattle.flutejoin.specs.Walk.{CanAdd, IsAt, Stands}
use Rattle.flutejoin.specs.declared.limits.TheConstants.{MAX_ENTRIES}
use Rattle.flutejoin.specs.declared.walk.object_walk.OpenObject.{OpenObject}
use Rattle.flutejoin.proofs.PickedFacts.{few_picked, picked_rises, rising_picked}

-- ---- what was read

-- why no more was read
module _ (most : Limits) (input left : Option (List ℕ)) where
  pub not_read : (f : CommandFault) → NotRead most input left f → GapsFail most input left f
  not_read OutOfMemory r = absurd r
  not_read CannotWrite r = absurd r
  not_read f r = r

  pub none_written : (f : CommandFault) → NotRead most input left f
      → write_failures {T = Unit {0}} (Err f) ≡ 0
  none_written CannotWrite r = absurd r
  none_written f r = refl

-- how often the source failed
pub fails_since : (f : CommandFault) {n : ℕ} (m : ℕ) {k : ℕ} → n ≡ k
    → FailsToRead {T = Unit {0}} n m (Err f) → FailsToRead {T = Unit {0}} k m (Err f)
fails_since f m e h = subst (λ x. FailsToRead {T = Unit {0}} x m (Err f)) e h

-- entries were read within the limits, and the visitor was told of those that are picked
pub record WalksRead {R : Type 0} (unread : R → Option (List ℕ)) (buffered : R → List ℕ)
    {s o y : ℕ} {At V : Type 0} (Has : At → List Told → Option Progress → V → Type 0)
    (picks : Fact → Bool) (input : Option (List ℕ)) (journal : JournalState R) (tally : Tally s o y)
    (walk : Option OpenObject) (first now : V) : Type 0 where
  pub entries : List Fact
  pub read : HasRead unread buffered input entries journal tally
  pub stands : (at : At) → Has at [] None first
      → Stands Has at (filter picks entries) walk now

counted : (F : List Fact) (told : Version) → entries_at (state_at journal_framing told F) ≡ length F
counted [] _ = refl
counted (f ∷ F) _ = refl

module _ {R : Type 0} {unread : R → Option (List ℕ)} {buffered : R → List ℕ} {s o y : ℕ}
    {At V : Type 0} {Has : At → List Told → Option Progress → V → Type 0} {picks : Fact → Bool}
    {u : Option (List ℕ)} {journal : JournalState R} {tally : Tally s o y}
    {walk : Option OpenObject} {first now : V}
    (h : WalksRead unread buffered Has picks u journal tally walk first now) where
  -- how many entries were read
  pub read_count : entries_at (state_of journal.reader) ≡ length h.entries
  read_count = ap entries_at h.read.sofar.state_is ∙ counted _ _

  pub read_rises : IsRising (filter picks h.entries)
  read_rises = rising_picked _ _ h.read.sofar.are_items.in_order

  -- where the walk is, whatever is known of what devices were given
  abbrev pub is_at : (at : At) → Has at [] None first → IsAt Has walk now
  is_at at none =
      let l = h.stands at none in
      record {
        facts = filter picks h.entries;
        objects = l.objects;
        progress = l.progress;
        rising = read_rises;
        few = omega (arith, few_picked picks h.entries, h.read.sofar.are_items.few);
        walks = l.walks;
        index = at;
        has = l.has;
      }

  module _ {to : JournalState R} {next : Tally s o y} (f : Fact)
      (more : HasRead unread buffered u (h.entries ++ f ∷ []) to next) where
    pub fewer : MAX_ENTRIES - entries_at (state_of to.reader)
        < MAX_ENTRIES - entries_at (state_of journal.reader)
    fewer =
        let few = more.sofar.are_items.few in
        let now = ap entries_at more.sofar.state_is ∙ counted _ _ in
        omega (arith, few, now, read_count, length-append h.entries (f ∷ []))

    pub can_add : picks f ≡ true → (at : At) → Has at [] None first → CanAdd Has f walk now
    can_add e at none = record {
      at = is_at at none;
      onward = picked_rises _ f _ e more.sofar.are_items.in_order;
    }

    pub one_more : {walk' : Option OpenObject} {now' : V} → ((at : At) → Stands Has at
        (filter picks h.entries) walk now → Stands Has at (filter picks (h.entries ++ f ∷ [])) walk'
        now') → WalksRead unread buffered Has picks u to next walk' first now'
    one_more l = record {
      entries = h.entries ++ f ∷ [];
      read = more;
      stands = λ known none. l known (h.stands known none);
    }

    -- and the entry was let go of
    pub reads_within : (left : Option (List ℕ)) → Consumes (unread (source_of to.reader).now) left
        (spelled_of buffered (reading_of to)) → ReadsWithin (at_most s o y) u left
    reads_within left taken = record {
      entries = h.entries ++ f ∷ [];
      are_items = more.sofar.are_items;
      within = more.counts.within;
      read = inl (let_go_after u _ _ _ _ taken more.sofar.read);
    }

  module _ (to : JournalState R) (next : Tally s o y)
      (end : HoldsOn unread buffered u h.entries to next None) where
    pub whole_within : ReadsWithin (at_most s o y) u (unread (source_of to.reader).now)
    whole_within = record {
      entries = h.entries;
      are_items = h.read.sofar.are_items;
      within = h.read.counts.within;
      read = inr end;
    }

    pub all_read : {P : List Told → Type 0} (objects : List Told) → AreTold (filter picks h.entries)
        objects → P objects → ListsJournal (at_most s o y) picks u P
    all_read objects l p = record {
      entries = h.entries;
      journal = end.0;
      within = h.read.counts.within;
      objects = objects;
      told = l;
      so = p;
    }
