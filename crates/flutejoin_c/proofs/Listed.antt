-- entries: where the bytes of the entry that was read last are, and what is listed (specs/Entries).
use Rattle.std.proofs.lemmas.Grind.{common_steps}
use Rattle.std.proofs.Common.{◌≡◌, ℕ, List, [], ◌∷◌, ◌++◌, length, Option, Some, None, Result, Ok}
use Rattle.std.proofs.Common.{Err, refl, sym, ap, ◌∙◌, subst, arith, append_assoc, rules}
use Rattle.std.specs.Prelude.{MatchResult}
use Rattle.std.proofs.lemmas.List.{append-nil}
use Rattle.std.specs.List.{AllZip}
use Rattle.flute_parts.specs.Addresses.{bytes_of}
use Rattle.flute_parts.specs.declared.fact.Fact.{Fact}
use Rattle.flute_parts.specs.declared.fact.Fact.TheVariants.{Info, InfoConflict, Symbol}
use Rattle.flute_parts.specs.declared.fact.Fact.TheVariants.{SymbolConflict}
use Rattle.flute_parts.specs.declared.memory_source.MemorySource.{MemorySource}
use Rattle.flute_journal.specs.Format.{entry_in, id_bytes, key_bytes, without_end_in}
use Rattle.flute_journal.specs.Framing.{Gives, GivesFault, GivesItem, HasFault, Sofar}
use Rattle.flute_journal.specs.JournalFraming.{journal_framing}
use Rattle.flute_journal.specs.Numbers.{in_bytes}
use Rattle.flute_journal.specs.Readers.{limit_of, source_of, state_of}
use Rattle.flute_journal.specs.declared.fault.ReadFault.{ReadFault}
use Rattle.flute_journal.specs.declared.format.version.Version.{Version}
use Rattle.flute_journal.specs.declared.readers.journal_reader.JournalReader.{JournalReader}
use Rattle.flute_journal.proofs.Public.{journal_sound, read_some, side-from, sofar-fault}
use Rattle.flute_journal.proofs.Public.{sofar-next, whole-at}
use Rattle.flutejoin.specs.declared.command_fault.CommandFault.{CommandFault}
use Rattle.flutejoin.specs.declared.command_fault.CommandFault.TheVariants.{Input}
use Rattle.flutejoin.specs.declared.limits.TheConstants.{MAX_ENTRIES}
use Rattle.flutejoin_c.specs.Entries.{AreEntries, Says}
use Rattle.flutejoin_c.specs.declared.entries.EntryFields.{EntryFields}

-- what is left of the journal that is read
abbrev pub left_of : JournalReader MemorySource → List ℕ
left_of reader = (source_of reader).now.unread.now

-- what a call of the reader gave
abbrev pub Gave : JournalReader MemorySource → JournalReader MemorySource
    → Result (Option Fact) ReadFault → Type 0
Gave old new read =
    Gives journal_framing (limit_of old) (state_of old) (state_of new) (Some (left_of old))
    (Some (left_of new)) read

-- these entries of a journal were read, and what they say is listed
pub record ListedSoFar (journal : List ℕ) (reader : JournalReader MemorySource)
    (listed : List EntryFields) : Type 0 where
  pub facts : List Fact
  pub limit : limit_of reader ≡ MAX_ENTRIES
  pub sofar :
      Sofar journal_framing MAX_ENTRIES (Some journal) (Some (left_of reader)) (state_of reader)
      facts
  pub each : AllZip (Says journal) listed facts

all_push : {A B : Type 0} (R : A → B → Type 0) (xs : List A) (ys : List B) (x : A) (y : B)
    → AllZip R xs ys → R x y → AllZip R (xs ++ x ∷ []) (ys ++ y ∷ [])
all_push R [] [] x y all one = (one, tt)
all_push R [] (z ∷ zs) x y all one = absurd all
all_push R (w ∷ ws) [] x y all one = absurd all
all_push R (w ∷ ws) (z ∷ zs) x y all one = (all.0, all_push R ws zs x y all.1 one)

-- an entry ends with the bytes of its symbol
entry_ends : (v : Version) (f : Fact)
    → (front : List ℕ) × (entry_in v f ≡ front ++ bytes_of f)
entry_ends v (Info key info) =
    (entry_in v (Info key info), sym (append-nil (entry_in v (Info key info))))
entry_ends v (InfoConflict key) =
    (entry_in v (InfoConflict key), sym (append-nil (entry_in v (InfoConflict key))))
entry_ends v (Symbol key id bytes) =
    let name = key_bytes v key in
    let size = in_bytes 2 (length bytes) in (
      3 ∷ (name ++ (id_bytes id ++ size)),
      rw (append_assoc name (id_bytes id ++ size) bytes, append_assoc (id_bytes id) size bytes) refl,
    )
entry_ends v (SymbolConflict key id) =
    (entry_in v (SymbolConflict key id), sym (append-nil (entry_in v (SymbolConflict key id))))

ends_with : (v : Version) (facts : List Fact) (f : Fact) (journal left : List ℕ)
    → journal ≡ without_end_in v (facts ++ f ∷ []) ++ left
    → (front : List ℕ) × (journal ≡ front ++ (bytes_of f ++ left))
ends_with v facts f journal left is =
    let e = entry_ends v f in
    let front = without_end_in v facts ++ e.0 in
    let more : without_end_in v (facts ++ f ∷ []) ≡ without_end_in v facts ++ entry_in v f =
    grind (arith, common_steps) in
    let whole : journal ≡ (without_end_in v facts ++ (e.0 ++ bytes_of f)) ++ left =
    is ∙ ap (λ (l : List ℕ). l ++ left) (more ∙ ap (λ l. without_end_in v facts ++ l) e.1) in (
      front,
      whole ∙ ap (λ (l : List ℕ). l ++ left)
          (sym (append_assoc (without_end_in v facts) e.0 (bytes_of f)))
          ∙ append_assoc front (bytes_of f) left,
    )

-- What was read, if its fault was mapped to one of the call.

abbrev MapsFault : {T : Type 0} → Result T ReadFault → Result T CommandFault → Type 0
MapsFault read given = MatchResult read (λ x. given ≡ Ok x) (λ f. given ≡ Err (Input 1 f))

pub read_failed : {T : Type 0} (read : Result T ReadFault) (given : Result T CommandFault)
    (fault : CommandFault) → MapsFault read given → given ≡ Err fault
    → (f : ReadFault) × (read ≡ Err f) × (fault ≡ Input 1 f)
read_failed x0 x1 x2 x3 x4 = search rules

pub read_done : {T : Type 0} (read : Result T ReadFault) (given : Result T CommandFault) (x : T)
    → MapsFault read given → given ≡ Ok x → read ≡ Ok x
read_done x0 x1 x2 x3 x4 = search rules

module _ (old new : JournalReader MemorySource) where
  gives_entry : {read : Result (Option Fact) ReadFault} {f : Fact} → limit_of old ≡ MAX_ENTRIES
      → read ≡ Ok (Some f) → Gave old new read
      → GivesItem journal_framing MAX_ENTRIES (state_of old) (state_of new) (Some (left_of old))
      (Some (left_of new)) f
  gives_entry b r g = grind arith

  -- the bytes of the entry that was read last are before what is left
  pub last_ends : {journal : List ℕ} {listed : List EntryFields}
      {read : Result (Option Fact) ReadFault} {f : Fact} → ListedSoFar journal old listed
      → read ≡ Ok (Some f) → Gave old new read
      → (front : List ℕ) × (journal ≡ front ++ (bytes_of f ++ left_of new))
  last_ends {journal = journal} {f = f} l r g =
      let next = sofar-next journal_sound l.sofar (gives_entry l.limit r g) in
      let v = next.are_items.told in
      ends_with v l.facts f journal (left_of new)
      (next.read ∙ ap (λ (bs : List ℕ). bs ++ left_of new) (read_some journal_framing v l.facts f))

  -- one entry more was read, and what it says is listed
  pub listed-next : {journal : List ℕ} {listed : List EntryFields}
      {read : Result (Option Fact) ReadFault} {f : Fact} {fields : EntryFields}
      → ListedSoFar journal old listed → read ≡ Ok (Some f) → Gave old new read
      → limit_of new ≡ limit_of old → Says journal fields f
      → ListedSoFar journal new (listed ++ fields ∷ [])
  listed-next {journal = journal} {listed = listed} {f = f} {fields = fields} l r g same says =
      record {
        facts = l.facts ++ f ∷ [];
        limit = same ∙ l.limit;
        sofar = sofar-next journal_sound l.sofar (gives_entry l.limit r g);
        each = all_push (Says journal) listed l.facts fields f l.each says;
      }

  -- the end was read
  pub listed-all : {journal : List ℕ} {listed : List EntryFields}
      {read : Result (Option Fact) ReadFault} → ListedSoFar journal old listed → read ≡ Ok None
      → Gave old new read → AreEntries journal listed
  listed-all {journal = journal} l r g =
      let left = Some (left_of new) in
      let ended =
      subst (λ n. Gives journal_framing n (state_of old) (state_of new) (Some (left_of old)) left
      (Ok None)) l.limit (subst (Gave old new) r g) in
      let end = side-from journal_sound left (state_of new) None l.sofar ended in
      record {
        facts = l.facts;
        journal_is = whole-at journal_sound MAX_ENTRIES (Some journal) left l.facts end;
        each = l.each;
      }

  -- reading stopped
  pub listed-fault : {journal : List ℕ} {listed : List EntryFields}
      {read : Result (Option Fact) ReadFault} {f : ReadFault} → ListedSoFar journal old listed
      → read ≡ Err f → Gave old new read
      → HasFault journal_framing MAX_ENTRIES (Some journal) f
  listed-fault {f = f} l r g =
      let stopped : GivesFault journal_framing MAX_ENTRIES (state_of old) (state_of new)
      (Some (left_of old)) (Some (left_of new)) f =
      subst (λ n. GivesFault journal_framing n (state_of old) (state_of new) (Some (left_of old))
      (Some (left_of new)) f) l.limit (subst (Gave old new) r g) in
      sofar-fault journal_sound l.sofar stopped
