-- show: a journal whose entries are printed as they are read (specs/Show).
use Rattle.std.proofs.Common.{rules}
use Rattle.std.proofs.Common.{◌≡◌, ℕ, ◌+◌, ◌≤◌, Bool, true, false, List, [], ◌∷◌, ◌++◌, length}
use Rattle.std.proofs.Common.{Option, Some, None, Result, Ok, Err, ap, refl, sym, subst, arith}
use Rattle.std.specs.Prelude.{IfSome, IfErr, OnOk, filter}
use Rattle.std.specs.Io.KnownBytes.{Appends}
use Rattle.std.proofs.KnownBytes.{Appends-nil, Appends-trans}
use Rattle.std.proofs.lemmas.List.{length-append}
use Rattle.std.proofs.lemmas.List.Elements.{filter-append}
use Rattle.std.proofs.lemmas.Grind.{flat_map-append}
use Rattle.flute_parts.specs.Devices.{AppendsPart}
use Rattle.flute_parts.proofs.Public.{AppendsPart-second}
use Rattle.flute_parts.specs.declared.fact.Fact.{Fact}
use Rattle.flute_journal.specs.declared.fault.ReadFault.{ReadFault}
use Rattle.flute_journal.specs.declared.fault.ReadFault.TheVariants as faults
use Rattle.flute_journal.specs.declared.readers.reader_state.ReaderState.{ReaderState}
use Rattle.flute_journal.specs.declared.readers.entry_fields.Before.{Before}
use Rattle.flute_journal.specs.Input.{Fails, FailsIf}
use Rattle.flute_journal.specs.Journal.{IsJournalWithin}
use Rattle.flute_journal.specs.JournalFraming.{journal_framing}
use Rattle.flute_journal.specs.Framing.{is_open, GivesItem, GivesEnd, GivesFault, Gives, Sofar}
use Rattle.flute_journal.proofs.Public.{whole-at, read_some, side-from, journal_sound}
use Rattle.flute_journal.proofs.Public.{sofar-next, sofar-none, sofar-stops}
use Rattle.flute_journal.specs.declared.format.version.Version.TheVariants.{Two}
use Rattle.flute_journal.specs.declared.readers.reader_state.ReaderState.TheVariants.{Header}
use Rattle.flutejoin.specs.Show.{entry_line, entry_lines, number_line, FailsToRead, ShowsAll, ShowsUntil, ShowsPart}
use Rattle.flutejoin.specs.Show.{of_entries, of_journal, ShowFails}
use Rattle.flutejoin.specs.Objects.{FailsToWrite}
use Rattle.flutejoin.specs.declared.command_fault.CommandFault.{CommandFault}
use Rattle.flutejoin.specs.declared.command_fault.CommandFault.TheVariants.{CannotWrite, Input}
use Rattle.flutejoin.specs.declared.limits.TheConstants.{MAX_ENTRIES}
use Rattle.flutejoin.specs.declared.lines.show_style.ShowStyle.{ShowStyle}
use Rattle.flutejoin.proofs.PickedFacts.{few_picked, just_picked, none_picked, one_picked}

-- The end of a journal, after its entries.

pub whole : {u v w : Option (List ℕ)} {from to : ReaderState Before} {es : List Fact}
    → Sofar journal_framing MAX_ENTRIES u v from es → GivesEnd journal_framing from to v w
    → IfSome u (λ x. IsJournalWithin MAX_ENTRIES x es)
whole {u} {w} {to} {es} h g = whole-at journal_sound _ u w _ (side-from journal_sound w to None h g)

-- these entries were read, and the lines of those that are picked written, and nothing else
pub record Shown (style : ShowStyle) (picks : Fact → Bool) (first now : Option (List ℕ)) (state : ReaderState Before)
    (old new : Option (List ℕ)) (count : ℕ) : Type 0 where
  pub entries : List Fact
  pub sofar : Sofar journal_framing MAX_ENTRIES first now state entries
  pub counted : count ≡ length (filter picks entries)
  pub written : Appends old new (entry_lines style (filter picks entries))

pub none_shown : (style : ShowStyle) (picks : Fact → Bool) (u : Option (List ℕ))
    {v : Option (List ℕ)} {state : ReaderState Before} (written : Option (List ℕ)) → v ≡ u
    → state ≡ Header → Shown style picks u v state written written 0
none_shown style picks u written same new = record {
  entries = [];
  sofar = rw (same, new) (sofar-none journal_sound Two _ u);
  counted = refl;
  written = Appends-nil _;
}

lines_more : (style : ShowStyle) (picks : Fact → Bool) (es : List Fact) (f : Fact)
    → entry_lines style (filter picks es) ++ entry_lines style (filter picks (f ∷ []))
    ≡ entry_lines style (filter picks (es ++ f ∷ []))
lines_more style picks es f = search (rules, filter-append, flat_map-append)

-- the line of an entry that is picked
pub just_line : (picks : Fact → Bool) (f : Fact) (style : ShowStyle) → picks f ≡ true
    → entry_lines style (filter picks (f ∷ [])) ≡ entry_line style f
just_line picks f style e = search (rules, just_picked)

module _ {style : ShowStyle} {picks : Fact → Bool} {u v : Option (List ℕ)} {from : ReaderState Before}
    {s t : Option (List ℕ)} {count : ℕ}
    (h : Shown style picks u v from s t count) where
  -- no more lines than entries
  pub few_shown : count ≤ 16777216
  few_shown = search (rules, few_picked)

  module _ {w : Option (List ℕ)} {to : ReaderState Before} {f : Fact}
      (g : GivesItem journal_framing MAX_ENTRIES from to v w f) where
    pub shown-other : picks f ≡ false → Shown style picks u w to s t count
    shown-other other =
        let same = sym (none_picked picks f h.entries other) in
        record {
          entries = h.entries ++ f ∷ [];
          sofar = sofar-next journal_sound h.sofar g;
          counted = cc;
          written = search rules;
        }

  module _ {w : Option (List ℕ)} {to : ReaderState Before} {f : Fact}
      (g : GivesItem journal_framing MAX_ENTRIES from to v w f) {t' : Option (List ℕ)} where
    pub shown-line : picks f ≡ true → Appends t t' (entry_line style f)
        → Shown style picks u w to s t' (count + 1)
    shown-line chosen line = record {
      entries = h.entries ++ f ∷ [];
      sofar = sofar-next journal_sound h.sofar g;
      counted =
          let more = ap length (one_picked picks f h.entries chosen) in
          let all = length-append (filter picks h.entries) (f ∷ []) in
          omega arith;
      written =
          rw (← lines_more style picks h.entries f) (Appends-trans s t t' (entry_lines style (filter picks h.entries))
          (entry_lines style (filter picks (f ∷ []))) h.written
          (subst (λ (x : List ℕ). Appends t t' x) (sym (just_line picks f style chosen)) line));
    }

    -- a line was written in part
    pub shown-part : AppendsPart t t' (entry_lines style (filter picks (f ∷ [])))
        → ShowsPart style picks u w s t'
    shown-part part =
        let all = sofar-next journal_sound h.sofar g in
        of_entries (h.entries ++ f ∷ []) all.are_items
        (rw (← read_some journal_framing all.are_items.told h.entries f) all.read)
        (rw (← lines_more style picks h.entries f) (AppendsPart-second s t _ _ _ h.written part))

  -- A fault after the entries.
  pub shown-fault : {w : Option (List ℕ)} {to : ReaderState Before} {f : ReadFault}
      → GivesFault journal_framing MAX_ENTRIES from to v w f → ShowsUntil style picks u w s t f
  shown-fault g = record {
    entries = h.entries;
    are_items = h.sofar.are_items;
    stops = (sofar-stops h.sofar g).0;
    written = h.written;
  }

  module _ {w : Option (List ℕ)} {to : ReaderState Before}
      (g : GivesEnd journal_framing from to v w) {t' : Option (List ℕ)} where
    pub shown-all : Appends t t' (number_line style.form count) → ShowsAll style picks u s t'
    shown-all line =
        let chosen = filter picks h.entries in
        record {
          entries = h.entries;
          journal = whole h.sofar g;
          written = Appends-trans s t _ _ _ h.written (rw (← h.counted) line);
        }

    pub shown-cut : AppendsPart t t' (number_line style.form count) → ShowsPart style picks u w s t'
    shown-cut part =
        let chosen = filter picks h.entries in
        of_journal h.entries (whole h.sofar g)
        (AppendsPart-second s t _ _ _ h.written (rw (← h.counted) part))

-- What a call of the reader gave, and a write did.

pub entry_given : {limit : ℕ} (from to : ReaderState Before) (v w : Option (List ℕ))
    {r : Result (Option Fact) ReadFault} {f : Fact} → Gives journal_framing limit from to v w r →
    limit ≡ MAX_ENTRIES → r ≡ Ok (Some f) → GivesItem journal_framing MAX_ENTRIES from to v w f
entry_given {limit} from to v w {f} h l e = search rules

pub end_given : (limit : ℕ) (from to : ReaderState Before) (v w : Option (List ℕ))
    {r : Result (Option Fact) ReadFault} → Gives journal_framing limit from to v w r → r ≡ Ok None →
    GivesEnd journal_framing from to v w
end_given limit from to v w h e = search rules

pub fault_given : {limit : ℕ} (from to : ReaderState Before) (v w : Option (List ℕ))
    {r : Result (Option Fact) ReadFault} {f : ReadFault} → Gives journal_framing limit from to v w r
    → limit ≡ MAX_ENTRIES → r ≡ Err f → GivesFault journal_framing MAX_ENTRIES from to v w f
fault_given {limit} from to v w {f} h l e = search rules

pub no_read_failure : (r : Result (Option Fact) ReadFault) {o : Option Fact} (b : Bool)
    {n m k : ℕ} → r ≡ Ok o → FailsIf b m n r → m ≡ k → n ≡ k
no_read_failure = search rules

pub fails_same : (T X : Type 0) (f : ReadFault) (n m : ℕ) → Fails {T = T} n m (Err f)
    → Fails {T = X} n m (Err f)
fails_same T X faults.Read n m h = h
fails_same T X f n m h = h

-- a fault that the reader met now
pub read_failures : (T : Type 0) {u v : Option (List ℕ)} {state : ReaderState Before}
    {es : List Fact} {r : Result (Option Fact) ReadFault} {f : ReadFault} (number n : ℕ)
    {m k : ℕ} → Sofar journal_framing MAX_ENTRIES u v state es → r ≡ Err f
    → FailsIf (is_open state) m n r → m ≡ k → FailsToRead {T = T} k n (Err (Input number f))
read_failures T {u} {v} {state} {es} {r} {f} number n {m} h is fails e =
    let P : Bool → Type 0 = λ b. FailsIf b m n r in
    let now : Fails m n r = search rules in
    let Q : Result (Option Fact) ReadFault → Type 0 = λ x. Fails m n x in
    let N : ℕ → Type 0 = λ i. Fails {T = T} i n (Err f) in
    subst N e (fails_same (Option Fact) T f m n (subst Q is now))

-- The last line: the count.

pub if_done : {A B : Type 0} (r : Result (Unit {0}) CommandFault) → (A → B) → OnOk r A → OnOk r B
if_done = search rules

module _ {A : Type 0} (style : ShowStyle) (picks : Fact → Bool) where
  pub cut_short : (u v s t : Option (List ℕ)) (r : Result (Unit {0}) CommandFault)
      → (A → ShowsPart style picks u v s t) → IfErr r (FailsToWrite A)
      → IfErr r (ShowFails style picks u v s t)
  cut_short u v s t (Ok x) f a = tt
  cut_short u v s t (Err CannotWrite) f a = f a
  cut_short u v s t (Err x) f a = absurd a

pub only_written : (A : Type 0) (old new : ℕ) (r : Result (Unit {0}) CommandFault)
    → IfErr r (FailsToWrite A) → new ≡ old → FailsToRead old new r
only_written = search rules
