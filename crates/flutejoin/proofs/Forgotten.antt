-- forget: the journal without the entries that are taken out (specs/Forget).
use Rattle.std.proofs.Common.{rules}
use Rattle.std.proofs.Common.{◌≡◌, ℕ, ◌+◌, ◌<◌, ◌^◌, Bool, List}
use Rattle.std.proofs.Common.{arith, Option, Some, None, refl}
use Rattle.std.specs.Prelude.{IfSome, not}
use Rattle.std.specs.List.{count_by}
use Rattle.std.proofs.lemmas.List.Sums.{count_by-le-length}
use Rattle.flute_parts.specs.declared.fact.Fact.{Fact}
use Rattle.flute_streams.specs.ChosenStreams.{chosen_behaviour, others_of}
use Rattle.flute_journal.specs.Journal.{IsJournalWithin}
use Rattle.flute_streams.specs.OneStream.{WritesAll, WritesPart}
use Rattle.flute_streams.specs.OwnedStreams.{left_in, owned_behaviour, owned_limit}
use Rattle.flute_streams.specs.Selections.{left, leaves, leaves_out}
use Rattle.flute_streams.specs.Streams.{Behaviour}
use Rattle.flute_streams.specs.declared.choice.selection.AllBut.{AllBut}
use Rattle.flutejoin.specs.Forget.{Forgets, ForgetsPart, IsForgetful}
use Rattle.flutejoin.specs.declared.limits.TheConstants.{MAX_ENTRIES}
use Rattle.flute_streams.specs.declared.streams.chosen.Chosen.{Chosen}
use Rattle.flute_streams.specs.declared.streams.owned_journal_stream.OwnedJournalStream.{OwnedJournalStream}

not_not : (b : Bool) → not (not b) ≡ b
not_not = search rules

-- what is not left is selected
not_left : (p : Fact → Bool) (facts : List Fact)
    → count_by (λ f. not (not (p f))) facts ≡ count_by p facts
not_left p facts = search rules

module _ {R : Type 0} (unread : R → Option (List ℕ)) (buffered : R → List ℕ)
    (failures : R → ℕ) where
  abbrev rests : Behaviour (Chosen (OwnedJournalStream R) AllBut)
  rests = chosen_behaviour leaves (owned_behaviour unread buffered failures)

  module _ (s t : Chosen (OwnedJournalStream R) AllBut)
      (limit : owned_limit s.stream ≡ MAX_ENTRIES) where
    journal_of : (input : Option (List ℕ)) (all : List Fact) → s.others ≡ 0 → (s.others + others_of
        (leaves s.choice) all < 2 ^ 64 → t.others ≡ s.others + others_of (leaves s.choice) all)
        → IfSome input (λ bytes. IsJournalWithin (owned_limit s.stream) bytes all) → IfSome input
        (IsForgetful s.choice t.others all)
    journal_of None _ _ _ is = tt
    journal_of (Some bytes) all none counts is =
        let within : IsJournalWithin MAX_ENTRIES bytes all = search rules in
        let few = count_by-le-length (λ f. not (leaves s.choice f)) all in
        let same = not_left (leaves_out s.choice) all in
        let count = counts (omega arith) in
        (within, omega arith)

  module _ {s : Chosen (OwnedJournalStream R) AllBut}
      (limit : owned_limit s.stream ≡ MAX_ENTRIES) {old new : Option (List ℕ)} where
    pub forgets : {t : Chosen (OwnedJournalStream R) AllBut} {count : ℕ} → s.others ≡ 0
        → WritesAll rests s t old new count
        → Forgets s.choice (record { forgotten = t.others; entries = count })
        (left_in unread buffered s.stream) old new
    forgets {t} {count} none w = search (rules, journal_of)

    pub forgets_part : WritesPart rests s old new
        → ForgetsPart s.choice (left_in unread buffered s.stream) old new
    forgets_part p = record {
      bytes = p.bytes;
      appended = p.appended;
      no_journal = p.no_journal;
      prefix = λ journal whole entries is within writes. p.prefix (left s.choice entries) (
        entries,
        record {
          version = within.are_items.told;
          bytes_are = cc;
          valid = within.are_items.valid;
          rising = within.are_items.in_order;
        },
        refl,
      ) whole writes;
    }
