-- Journals as bytes: whole entries at the front of one (specs/Prefixes).
use Rattle.std.proofs.Common.{arith}
use Rattle.std.proofs.lemmas.Grind.{common_steps}
use Rattle.std.proofs.Common.{rules}
use Rattle.flute_journal.proofs.Common.{AllByRecursion, Collects, Fact, IsFact, IsFactIn, IsWithin}
use Rattle.flute_journal.proofs.Common.{IsJournal, Journal, JournalIn, List, Same, Two}
use Rattle.flute_journal.proofs.Common.{Version, [], ap, append-nil, append_assoc, end, entry}
use Rattle.flute_journal.proofs.Common.{entry_in, flat_map, without_end}
use Rattle.flute_journal.proofs.Common.{without_end_in, header, in_bytes, length}
use Rattle.flute_journal.proofs.Common.{spelling, spelling_in, sym, written_up_to, ℕ, ◌++◌}
use Rattle.flute_journal.proofs.Common.{◌<◌, ◌^◌, ◌∙◌, ◌∷◌, ◌≡◌}
use Rattle.flute_journal.proofs.framing_lemmas.Sequences.{GoesOn, begins}
use Rattle.std.proofs.{lemmas.List.{append_cancel_left}, lemmas.List.Concat.{flat_map-append}}
use Rattle.flute_journal.proofs.format_lemmas.Entries.{entry_injective, not_end, header-injective}
use Rattle.flute_journal.proofs.format_lemmas.Entries.{facts_two}

pub without_end-append : (es fs : List Fact)
    → without_end (es ++ fs) ≡ without_end es ++ flat_map entry fs
without_end-append es fs = ap (λ (x : List ℕ). header ++ x) (flat_map-append entry es fs) ∙ sym
    (append_assoc header (flat_map entry es) (flat_map entry fs))

pub without_end_in-snoc : (v : Version) (es : List Fact) (f : Fact)
    → without_end_in v es ++ entry_in v f ≡ without_end_in v (es ++ f ∷ [])
without_end_in-snoc v es f = grind (arith, common_steps)

pub without_end-snoc : (es : List Fact) (f : Fact)
    → without_end es ++ entry f ≡ without_end (es ++ f ∷ [])
without_end-snoc es f = without_end_in-snoc Two es f

pub written-snoc : (es : List Fact) (f : Fact)
    → without_end (es ++ f ∷ []) ≡ written_up_to (es ++ f ∷ [])
written-snoc x0 x1 = grind (arith, common_steps)

-- bytes begin with a header of this version and these valid entries
pub record BeginsWithEntries (version : Version) (entries : List Fact) (rest bytes : List ℕ)
    : Type 0 where
  pub valid : AllByRecursion (IsFactIn version) entries
  pub bytes_are : bytes ≡ without_end_in version entries ++ rest

-- they begin with a whole journal of valid entries
pub record BeginsWithJournal (version : Version) (entries : List Fact) (rest bytes : List ℕ)
    : Type 0 where
  pub valid : AllByRecursion (IsFactIn version) entries
  pub bytes_are : bytes ≡ spelling_in version entries ++ rest

-- If two journals begin with the same bytes, they have one version; where the first ends after
-- its own entries, these are the first entries of the second.
pub without_end-both : {v w : Version} {fs es : List Fact} {x t bytes : List ℕ} → BeginsWithEntries
    v fs x bytes → BeginsWithEntries w es t bytes →
    ((f : Fact) (y : List ℕ) → t ≡ entry_in v f ++ y → ⊥) → (v ≡ w) × GoesOn (entry_in v) fs es x t
without_end-both {v = v} {w = w} {fs = fs} {es = es} {x = x} {t = t} p q none = search (
  rules,
  header-injective,
  begins,
  entry_injective,
)

pub without_end-of_spelling : {v w : Version} {fs es : List Fact} {x y bytes : List ℕ}
    → BeginsWithEntries v fs x bytes → BeginsWithJournal w es y bytes
    → (v ≡ w) × GoesOn (entry_in v) fs es x (end (length es) ++ y)
without_end-of_spelling {v = v} {w = w} {es = es} {y = y} {bytes = bytes} p q =
    let r : BeginsWithEntries w es (end (length es) ++ y) bytes = record {
      valid = q.valid;
      bytes_are = q.bytes_are ∙ append_assoc (without_end_in w es) (end (length es)) y;
    } in without_end-both p r (λ f z. not_end v f (in_bytes 8 (length es) ++ y) z)

by_rest : (v : Version) (fs es rest : List Fact) (x y : List ℕ) → es ≡ fs ++ rest
    → end (length fs) ++ x ≡ flat_map (entry_in v) rest ++ (end (length es) ++ y) → es ≡ fs
by_rest v fs es [] x y s t = s ∙ append-nil fs
by_rest v fs es (f ∷ rest) x y s t = search rules

-- a journal is read in one way, whatever follows it
pub spelling-injective : {v w : Version} {fs es : List Fact} {x y bytes : List ℕ} →
    BeginsWithJournal v fs x bytes → BeginsWithJournal w es y bytes → (v ≡ w) × (es ≡ fs) × (x ≡ y)
spelling-injective {v = v} {fs = fs} {es = es} {x = x} {y = y} {bytes = bytes} p q =
    let begun : BeginsWithEntries v fs (end (length fs) ++ x) bytes = record {
      valid = p.valid;
      bytes_are = p.bytes_are ∙ append_assoc (without_end_in v fs) (end (length fs)) x;
    } in
    let r = without_end-of_spelling begun q in
    let one = by_rest v fs es r.1.more x y r.1.items r.1.bytes in (
      r.0,
      one,
      append_cancel_left (spelling_in v fs) x y
          (sym p.bytes_are ∙ q.bytes_are ∙ (λ i. spelling_in (sym r.0 i) (one i) ++ y)),
    )

-- Journals of whatever version.

pub record JournalParts (version : Version) (bytes : List ℕ) (facts : List Fact) : Type 0 where
  pub entries : List Fact
  pub collects : Collects facts entries
  pub small : length entries < 2 ^ 64
  pub bytes_are : bytes ≡ spelling_in version entries
  pub valid : AllByRecursion (IsFactIn version) entries

pub journal_parts : (v : Version) (bytes : List ℕ) (facts : List Fact) → JournalIn v bytes facts
    → JournalParts v bytes facts
journal_parts x0 x1 x2 x3 = search (rules, facts_two)

pub parts_journal : (v : Version) (bytes : List ℕ) (facts : List Fact)
    → JournalParts v bytes facts → JournalIn v bytes facts
parts_journal x0 x1 x2 x3 = search rules

pub written_journal : (bytes : List ℕ) (facts : List Fact) → Journal bytes facts
    → IsJournal bytes facts
written_journal bytes facts j = (Two, j)

-- the entries of a journal, which nothing follows
pub begins_with_journal : {v : Version} {bytes : List ℕ} {facts : List Fact}
    → (j : JournalParts v bytes facts) → BeginsWithJournal v j.entries [] bytes
begins_with_journal {v = v} j = search rules

-- a journal has one version, and its facts have one value at each address
pub same_journal : (v w : Version) (bytes : List ℕ) (F G : List Fact) → JournalIn v bytes F
    → JournalIn w bytes G → (v ≡ w) × Same F G
same_journal v w bytes F G first second =
    let j = journal_parts v bytes F first in
    let k = journal_parts w bytes G second in
    let one = spelling-injective (begins_with_journal j) (begins_with_journal k) in
    (one.0, record { each = search rules })

-- A front of a journal that is no journal: it ends within its last entries or its end.

right_nil : (a b : List ℕ) → [] ≡ a ++ b → [] ≡ b
right_nil [] b e = e
right_nil (x ∷ a) b e = absurd cc

end_some : (n : ℕ) (y : List ℕ) → [] ≡ end n ++ y → ⊥
end_some n y e = cc

-- whole entries and a part of the next are no journal
pub no_end : (M : List Fact) (bs more : List ℕ) → AllByRecursion IsFact M
    → bs ++ more ≡ without_end M → (facts : List Fact) → IsJournal bs facts → ⊥
no_end M bs more all e facts (v, journal) =
    let j = journal_parts v bs facts journal in
    let begun : BeginsWithEntries Two M [] (bs ++ more) =
    record { valid = facts_two M all; bytes_are = e ∙ sym (append-nil (without_end M)) } in
    let read : BeginsWithJournal v j.entries more (bs ++ more) =
    record { valid = j.valid; bytes_are = ap (λ (x : List ℕ). x ++ more) j.bytes_are } in
    let f = without_end-of_spelling begun read in
    end_some (length j.entries) more (right_nil (flat_map entry f.1.more)
    (end (length j.entries) ++ more) f.1.bytes)

-- nor are they and a part of the end
pub no_whole_end : (M : List Fact) (bs more : List ℕ) → AllByRecursion IsFact M → (more ≡ [] → ⊥) →
    bs ++ more ≡ spelling M → (facts : List Fact) → IsJournal bs facts → ⊥
no_whole_end M bs more all s e facts (v, journal) =
    let j = journal_parts v bs facts journal in
    let read : BeginsWithJournal v j.entries more (bs ++ more) =
    record { valid = j.valid; bytes_are = ap (λ (x : List ℕ). x ++ more) j.bytes_are } in
    let whole : BeginsWithJournal Two M [] (bs ++ more) =
    record { valid = facts_two M all; bytes_are = e ∙ sym (append-nil (spelling M)) } in
    let f = spelling-injective read whole in
    s f.2

-- Bytes with nothing after a whole entry (specs/Input: IsWithin).

pub within_entry : (v : Version) (f : Fact) → IsFactIn v f
    → IsWithin (entry_in v) (IsFactIn v) (entry_in v f)
within_entry v f p g more w e =
    sym ((entry_injective v f g [] more p w (append-nil (entry_in v f) ∙ e)).1)

pub within_end : (v : Version) (n : ℕ) → IsWithin (entry_in v) (IsFactIn v) (end n)
within_end v n g more w e = search rules

pub within_nil : (v : Version) → IsWithin (entry_in v) (IsFactIn v) []
within_nil v g more w e = search rules
