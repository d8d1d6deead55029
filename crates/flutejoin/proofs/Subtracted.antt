-- minus: a part that was written is one of the journal of what is missing (specs/Minus).
use Rattle.std.proofs.Common.{◌≡◌, ℕ, List, Option, Some, refl}
use Rattle.flute_parts.specs.declared.fact.Fact.{Fact}
use Rattle.flute_journal.specs.Journal.{IsJournalWithin}
use Rattle.flute_streams.specs.JournalStreams.{IsJournalOfAll}
use Rattle.flute_streams.specs.Minus.{minus}
use Rattle.flute_streams.specs.MinusStreams.{minus_behaviour}
use Rattle.flute_streams.specs.OneStream.{WritesPart}
use Rattle.flute_streams.specs.OwnedStreams.{left_in, owned_behaviour}
use Rattle.flute_streams.specs.declared.streams.minus.Minus.{Minus}
use Rattle.flute_streams.specs.declared.streams.owned_journal_stream.OwnedJournalStream.{OwnedJournalStream}
use Rattle.flutejoin.specs.Minus.{WritesMinusPart}
use Rattle.flutejoin.specs.declared.limits.TheConstants.{MAX_ENTRIES}

known : (input : Option (List ℕ)) (bytes : List ℕ) (facts : List Fact) → input ≡ Some bytes
    → IsJournalWithin MAX_ENTRIES bytes facts → IsJournalOfAll input facts
known _ _ _ is within = record {
  version = within.are_items.told;
  bytes_are = cc;
  valid = within.are_items.valid;
  rising = within.are_items.in_order;
}

module _ {A B : Type 0} (ua : A → Option (List ℕ)) (ba : A → List ℕ) (fa : A → ℕ)
    (ub : B → Option (List ℕ)) (bb : B → List ℕ) (fb : B → ℕ)
    {start : Minus (OwnedJournalStream A) (OwnedJournalStream B)}
    {first second old new : Option (List ℕ)} where
  pub part_of_minus : left_in ua ba start.first ≡ first → left_in ub bb start.second ≡ second
      → WritesPart (minus_behaviour (owned_behaviour ua ba fa) (owned_behaviour ub bb fb)) start old
      new → WritesMinusPart first second old new
  part_of_minus one two w = record {
    bytes = w.bytes;
    appended = w.appended;
    no_journal = w.no_journal;
    prefix = λ xs ys whole F G is other j k. w.prefix (minus F G) (record {
      all = F;
      others = G;
      first = rw one (known _ _ F is j);
      second = rw two (known _ _ G other k);
      left = refl;
    }) whole;
  }
