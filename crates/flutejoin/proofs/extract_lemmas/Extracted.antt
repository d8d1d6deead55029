-- extract_to: what was written of an object, by the entries that were read (specs/Extract).
use Rattle.std.proofs.Common.{rules}
use Rattle.std.proofs.Common.{◌≡◌, ℕ, ◌+◌, Bool, List, [], ◌∷◌}
use Rattle.std.proofs.Common.{◌++◌, Option, Some, None, Result, Ok, Err, inl, inr, refl}
use Rattle.std.proofs.Common.{sym, ◌∙◌, append-nil}
use Rattle.std.specs.Prelude.{◌⊎◌, IfSome, IfErr}
use Rattle.std.proofs.lemmas.Option.{none-some}
use Rattle.flute_parts.specs.Devices.{times_failed}
use Rattle.flute_parts.specs.Facts.{IsRising, Same}
use Rattle.flute_parts.specs.Tally.{Counts}
use Rattle.flute_parts.specs.declared.fact.Fact.{Fact}
use Rattle.flute_parts.specs.declared.key.Key.{Key}
use Rattle.flute_parts.specs.declared.tally.Tally.{Tally}
use Rattle.flute_parts.proofs.Public.{fact_at-nil, Same-itself}
use Rattle.flute_parts.specs.Limits.{Over}
use Rattle.flute_store.proofs.Public.{gaps-same, object-same, Whole-same}
use Rattle.flute_journal.specs.JournalFraming.{journal_framing}
use Rattle.flute_journal.specs.Framing.{Gives, GivesItem, GivesEnd, GivesFault, Sofar}
use Rattle.flute_journal.specs.Stores.{BeginsWith}
use Rattle.flute_journal.specs.declared.fault.LoadFault.{LoadFault}
use Rattle.flute_journal.specs.declared.fault.LoadFault.TheVariants as load
use Rattle.flute_journal.specs.declared.fault.ReadFault.{ReadFault}
use Rattle.flute_journal.specs.declared.readers.reader_state.ReaderState.{ReaderState}
use Rattle.flute_journal.specs.declared.readers.entry_fields.Before.{Before}
use Rattle.flute_journal.proofs.Public.{Loaded, loaded-over, whole-at, side-from, journal_sound}
use Rattle.flute_journal.proofs.Public.{sofar-next, sofar-stops}
use Rattle.flutejoin.specs.Extract.{OfJournal, AnswersFrom, Extracts, FirstWritten, WritesFirst}
use Rattle.flutejoin.specs.Extract.{SinkFails}
use Rattle.flutejoin.specs.Limits.{Limits, at_most}
use Rattle.flutejoin.specs.ObjectWriters.{WroteFirst, WritesNothing, TellsUntouched, FailedBy}
use Rattle.flutejoin.specs.ObjectWriters.{Stands, PassesAll}
use Rattle.flutejoin.specs.Show.{FailsToRead}
use Rattle.flutejoin.specs.Status.{of_load}
use Rattle.flutejoin.specs.declared.command_fault.CommandFault.{CommandFault}
use Rattle.flutejoin.specs.declared.command_fault.CommandFault.TheVariants.{Full}
use Rattle.flutejoin.specs.declared.limits.TheConstants.{MAX_ENTRIES}
use Rattle.flutejoin.specs.declared.extract.object_writer.Found.{Found}
use Rattle.flutejoin.specs.declared.extract.object_writer.ObjectWriter.{ObjectWriter}
use Rattle.flutejoin.proofs.extract_lemmas.ObjectWriters.{wrote-some}

-- these entries were read, counted and passed, and nothing else
pub record Passing {a b d : ℕ} (input left : Option (List ℕ)) (state : ReaderState Before)
    (tally : Tally a b d) (writer : ObjectWriter) (start now : Option (List ℕ)) : Type 0 where
  pub entries : List Fact
  pub sofar : Sofar journal_framing MAX_ENTRIES input left state entries
  pub counts : Counts a b d entries tally
  pub stands : Stands entries writer start now

begins_at : (u v : Option (List ℕ)) (state : ReaderState Before) (es : List Fact)
    → Sofar journal_framing MAX_ENTRIES u v state es
    → (es ≡ []) ⊎ IfSome u (λ bytes. BeginsWith MAX_ENTRIES bytes es)
begins_at u v _ [] s = inl refl
begins_at None v _ (e ∷ es) s = inr tt
begins_at (Some x) None _ (e ∷ es) s = absurd s.read
begins_at (Some x) (Some z) _ (e ∷ es) s =
    inr (record { are_items = s.are_items; rest = z; whole = s.read })

module _ {a b d : ℕ} {u v w : Option (List ℕ)} {from to : ReaderState Before} {tally : Tally a b d}
    {writer : ObjectWriter} {s t : Option (List ℕ)} (p : Passing u v from tally writer s t) where
  -- one entry more, a fault of the journal, an entry over the limits, and the end
  pub passing-next : (f : Fact) (next : Tally a b d) (new : ObjectWriter) (t' : Option (List ℕ)) →
      GivesItem journal_framing MAX_ENTRIES from to v w f → ((F : List Fact) → IsRising
      (F ++ f ∷ []) → Counts a b d F tally → Counts a b d (F ++ f ∷ []) next) → ((P : List Fact) →
      IsRising (P ++ f ∷ []) → Stands P writer s t → Stands (P ++ f ∷ []) new s t') → Passing u w to
      next new s t'
  passing-next f next new t' g counts stands =
      let more = sofar-next journal_sound p.sofar g in
      record {
        entries = p.entries ++ f ∷ [];
        sofar = more;
        counts = search rules;
        stands = search rules;
      }

  pub passing-fault : (f : ReadFault) → GivesFault journal_framing MAX_ENTRIES from to v w f
      → PassesAll (at_most a b d) u w writer s t (Err (load.Read f))
  passing-fault f g = record {
    entries = p.entries;
    rising = p.sofar.are_items.in_order;
    begins = begins_at u v _ _ p.sofar;
    stands = p.stands;
    ended = (p.entries, p.counts.within, (sofar-stops p.sofar g).0);
  }

  pub passing-full : (f : Fact) (left : Option (List ℕ))
      → GivesItem journal_framing MAX_ENTRIES from to v w f
      → ((F : List Fact) → IsRising (F ++ f ∷ []) → Counts a b d F tally
      → Over (F ++ f ∷ []) a b d) → PassesAll (at_most a b d) u left writer s t (Err load.Full)
  passing-full f _ g over =
      let more = sofar-next journal_sound p.sofar g in
      let loaded : Loaded a b d MAX_ENTRIES u v from p.entries = record {
        entries = p.entries;
        sofar = p.sofar;
        same = Same-itself _;
        fits = p.counts.within;
      } in record {
        entries = p.entries;
        rising = p.sofar.are_items.in_order;
        begins = begins_at u v _ _ p.sofar;
        stands = p.stands;
        ended = loaded-over loaded g (over p.entries more.are_items.in_order p.counts);
      }

  pub passing-end : GivesEnd journal_framing from to v w → PassesAll (at_most a b d) u w writer s t
      (Ok tt)
  passing-end g =
      let end = side-from journal_sound w to None p.sofar g in
      let journal = whole-at journal_sound MAX_ENTRIES u w p.entries end in
      record {
        entries = p.entries;
        rising = p.sofar.are_items.in_order;
        begins = begins_at u v from p.entries p.sofar;
        stands = p.stands;
        ended = (journal, end.at_end, p.counts.within);
      }

-- What a call of the reader gave.

pub given-fault : {limit bound : ℕ} {v w : Option (List ℕ)} {old new : ReaderState Before}
    {f : ReadFault} → bound ≡ limit → GivesFault journal_framing bound old new v w f
    → GivesFault journal_framing limit old new v w f
given-fault {v} {w} {old} {new} {f} e h = search rules

pub given-end : (bound : ℕ) (v w : Option (List ℕ)) (old new : ReaderState Before)
    (given : Option Fact) → given ≡ None → Gives journal_framing bound old new v w (Ok given)
    → GivesEnd journal_framing old new v w
given-end bound v w old new given e h = search rules

-- What the command returns.

pub at_left : {most : Limits} {u v w : Option (List ℕ)} {writer : ObjectWriter}
    {s t : Option (List ℕ)} {r : Result (Unit {0}) LoadFault} → v ≡ w
    → PassesAll most u v writer s t r → PassesAll most u w writer s t r
at_left {most} {u} {writer} {s} {t} {r} e p = rw (← e) p

pub of_source : {R : Type 0} {most : Limits} (unread : R → Option (List ℕ)) {x y : R}
    {left : Option (List ℕ)} {writer : ObjectWriter} {s t : Option (List ℕ)}
    {r : Result (Unit {0}) LoadFault} → x ≡ y → PassesAll most (unread x) left writer s t r
    → PassesAll most (unread y) left writer s t r
of_source {R} {most} unread {left} {writer} {s} {t} {r} e p = search rules

pub if_err : (r : Result ℕ CommandFault) (X : Type 0) → X → IfErr r (λ _. X)
if_err = search rules

module _ {W : Type 0} (written : W → Option (List ℕ)) (key : Key) (old new : W) where
  -- a result stated of the bytes is one stated of the sink
  pub lifted : (F : List Fact) (what : Found) (r : Result ℕ CommandFault)
      → Extracts (λ x. x) F key (written old) (written new) r → IfErr r (TellsUntouched what)
      → (WritesNothing what → new ≡ old) → Extracts written F key old new r
  lifted = search rules

  -- facts with the same values at each address give the same result
  pub alike : (F G : List Fact) (r : Result ℕ CommandFault) → Same F G
      → Extracts written F key old new r → Extracts written G key old new r
  alike = search (rules, object-same, Whole-same, gaps-same)

  -- of a journal that was read to its end
  pub answered : {most : Limits} (input left : Option (List ℕ)) (F : List Fact)
      (r : Result ℕ CommandFault) (P : List Fact → Type 0) → Extracts written F key old new r
      → OfJournal most input left P → AnswersFrom most input left P r
  answered input left F other P h o = search rules

  -- the result for the journal's facts, and for any facts with the same values
  pub record Answers (most : Limits) (input left : Option (List ℕ))
      (r : Result ℕ CommandFault) : Type 0 where
    pub extracts : AnswersFrom most input left (λ F. Extracts written F key old new r) r
    pub as_others : (others : List Fact)
        → AnswersFrom most input left
        (λ F. Same F others → Extracts written others key old new r) r
    pub reads : (n m : ℕ) → m ≡ n → FailsToRead n m r

  -- a result that the writer gives has no failure of the source
  read_none : (F : List Fact) (r : Result ℕ CommandFault) → Extracts written F key old new r
      → (n m : ℕ) → m ≡ n → FailsToRead n m r
  read_none F other h k m e = search rules

  -- the result that the writer gives once the journal was read
  pub answers : {most : Limits} {input left : Option (List ℕ)} {writer : ObjectWriter}
      {x : Unit {0}} (r : Result ℕ CommandFault) → PassesAll most input left writer (written old)
      (written new) (Ok x) → writer.key ≡ key → (WritesNothing writer.found → new ≡ old) → ((P :
      List Fact) (start now : Option (List ℕ)) → IsRising P → Stands P writer start now → Extracts
      (λ x. x) P writer.key start now r) → IfErr r (TellsUntouched writer.found) → Answers most
      input left r
  answers {input} {left} {writer} {x} r p is same tells t =
      let F = p.entries in
      let here = rw is at (tells F (written old) (written new) p.rising p.stands) in
      let h = lifted F _ r here t same in
      record {
        extracts = answered _ _ F r _ h (record {
          entries = F;
          journal = p.ended.0;
          read = p.ended.1;
          within = p.ended.2;
          holds = h;
        });
        as_others = λ others. answered _ _ F r _ h (record {
          entries = F;
          journal = p.ended.0;
          read = p.ended.1;
          within = p.ended.2;
          holds = λ s. alike F _ r s h;
        });
        reads = read_none F r h;
      }

  pub first_part : {most : Limits} {input left : Option (List ℕ)} {writer : ObjectWriter}
      {r : Result (Unit {0}) LoadFault}
      → PassesAll most input left writer (written old) (written new) r → writer.key ≡ key
      → (WritesNothing writer.found → new ≡ old) → WritesFirst written input key old new
  first_part {input} {writer} p is same =
      elim (wrote-some _ _ _ _ _ _
      p.stands) [
        | inl none ↦ inl (same none)
        | inr w ↦ inr (begun _ p.rising p.begins
            (rw (← is) w))
      ]
    where
      begun : (F : List Fact) → IsRising F
          → (F ≡ []) ⊎ IfSome input (λ bytes. BeginsWith MAX_ENTRIES bytes F)
          → WroteFirst F key (written old) (written new)
          → FirstWritten input (written old) (written new) key
      begun F _ (inl e) w =
          absurd (none-some _ (sym (fact_at-nil _) ∙
          (w.held [] [] (sym (append-nil F ∙ e)) tt).information))
      begun F rising (inr b) w =
          record {
            entries = F;
            begins = b;
            info = w.info;
            bytes = w.bytes;
            held =
                w.held F [] (sym (append-nil F)) rising;
            count = w.count;
            appended = w.appended;
          }

-- how often the sink failed
pub sink_fails : (n m : ℕ) (failed : Bool) (r : Result ℕ CommandFault) → m ≡ n + times_failed failed
    → FailedBy failed r → SinkFails n m r
sink_fails = search rules

-- The fault is that of the journal.

pub journal_fault : {most : Limits} {input left : Option (List ℕ)} {writer : ObjectWriter}
    {s t : Option (List ℕ)} {f : LoadFault} {fault : CommandFault} → fault ≡ of_load 1 f
    → (P : List Fact → Type 0) → PassesAll most input left writer s t (Err f)
    → AnswersFrom most input left P (Err fault)
journal_fault {most} {input} {left} {writer} {s} {t} {f} e P p =
    rw e (told f p)
  where
    told : (g : LoadFault) → PassesAll most input left writer s t (Err g)
        → AnswersFrom most input left P (Err (of_load 1 g))
    told (load.Read g) p = (refl, p.ended)
    told load.Full p = p.ended
    told load.OutOfMemory p = absurd p.ended
