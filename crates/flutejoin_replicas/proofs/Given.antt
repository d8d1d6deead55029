-- Replicas that were given the same hold the same (specs/Laws).
use Rattle.std.proofs.Common.{◌≡◌, ℕ, List, Option, length, sym, ap, subst, ◌∙◌}
use Rattle.std.specs.Io.KnownBytes.{Appends}
use Rattle.flute_parts.specs.declared.key.Key.{Key}
use Rattle.flute_parts.specs.declared.fact.Fact.{Fact}
use Rattle.flute_parts.specs.Addresses.{info_address}
use Rattle.flute_parts.specs.Devices.{AppendsPart}
use Rattle.flute_store.specs.Extract.{WritesWhole, TellsExtractFault}
use Rattle.flute_store.specs.declared.extract.ExtractFault.{ExtractFault}
use Rattle.flute_store.specs.declared.extract.ExtractFault.TheVariants.{NoObject, NoInformation}
use Rattle.flute_store.specs.declared.extract.ExtractFault.TheVariants.{ConflictingInformation}
use Rattle.flute_store.specs.declared.extract.ExtractFault.TheVariants.{NotWhole, Write}
use Rattle.flute_store.proofs.Public.{gaps-same, object-same, Whole-same}
use Rattle.flute_journal.specs.Format.{spelling}
use Rattle.flute_journal.specs.Journal.{Journal}
use Rattle.flute_parts.proofs.Public.{rising_unique, Same-members, Same-sym, Same-trans}
use Rattle.flute_journal.specs.JournalWriters.{WritesJournal}
use Rattle.flutejoin.proofs.Public.{Journal-only}
use Rattle.flutejoin_replicas.proofs.Receptions.{Journal-of_same}
use Rattle.flute_parts.specs.Facts.{Same, IsRising}
use Rattle.flutejoin_replicas.specs.declared.steps.Step.{Step}
use Rattle.flutejoin_replicas.specs.Held.{Held}
use Rattle.flutejoin_replicas.specs.Steps.{held_by}
use Rattle.flutejoin_replicas.specs.Known.{Fits, known_by}
use Rattle.flutejoin_replicas.specs.Runs.{IsRunDone}
use Rattle.flutejoin_replicas.specs.Laws.{IsLeft, GivenTheSame}

pub given_the_same : (F G : List Fact) → GivenTheSame F G → Same F G
given_the_same F G h =
    let K = known_by h.count h.steps h.origins h.replica in
    let L = known_by h.other_count h.other_steps h.other_origins h.other_replica in
    Same-trans F K G h.left.same (Same-trans K L G (Same-members K L h.members)
    (Same-sym G L h.other_left.same))

pub run_leaves : (count : ℕ) (steps : List Step) (origins : ℕ → List Fact) (r : ℕ) (now : Held)
    → IsRunDone count steps now → Fits steps origins
    → IsLeft count steps origins r (held_by now.contents r)
run_leaves count steps origins r now done fits =
    record {
      fits = fits;
      same =
          Same-sym (known_by count steps origins r) (held_by now.contents r)
          ((done.content origins fits).each r);
    }

-- what a store holds that a run left
pub store_same : {count : ℕ} {steps : List Step} (origins : ℕ → List Fact) (r : ℕ) {now : Held}
    {F : List Fact} → IsRunDone count steps now → Fits steps origins
    → F ≡ held_by now.contents r → Same F (known_by count steps origins r)
store_same {count = count} {steps = steps} origins r {now = now} done fits is =
    let P : List Fact → Type 0 = λ G. Same G (known_by count steps origins r) in
    subst P (sym is) (run_leaves count steps origins r now done fits).same

-- its journal is that of the facts the replica was given, and of any with the same members
pub written_as_given : (old new : Option (List ℕ)) {F K : List Fact} {count : ℕ} → Same F K
    → Appends old new (spelling F) → Journal (spelling F) F → IsRising F → count ≡ length F
    → WritesJournal old new K count
written_as_given old new {F = F} {K = K} same written journal rising counted =
    let one = rising_unique F journal.0 rising journal.1.rising journal.1.same in
    record {
      bytes = spelling F;
      journal = (
        journal.0,
        record {
          valid = journal.1.valid;
          rising = journal.1.rising;
          same = Same-trans K F journal.0 (Same-sym F K same) journal.1.same;
        },
        journal.2,
        journal.3,
      );
      entries = counted ∙ ap length one;
      appended = written;
    }

pub written_as_others : (old new : Option (List ℕ)) {F L : List Fact} (bytes : List ℕ)
    → Same F L → Appends old new (spelling F) → Journal (spelling F) F → Journal bytes L
    → Appends old new bytes
written_as_others old new {F = F} {L = L} bytes same written journal other =
    let P : List ℕ → Type 0 = λ bs. Appends old new bs in
    subst P (Journal-only (spelling F) bytes F L same journal other) written

pub cut_as_given : (old new : Option (List ℕ)) {F K : List Fact} (bytes : List ℕ) → Same F K
    → AppendsPart old new (spelling F) → ((bs : List ℕ) → Journal bs F → bs ≡ spelling F)
    → Journal bytes K → AppendsPart old new bytes
cut_as_given old new {F = F} {K = K} bytes same written only journal =
    let P : List ℕ → Type 0 = λ bs. AppendsPart old new bs in
    let of_store = Journal-of_same bytes K F (Same-sym F K same) journal in
    subst P (sym (only bytes of_store)) written

-- lists with the same values at each address give the same report of an object
module _ {W : Type 0} (written : W → Option (List ℕ)) (F G : List Fact) (key : Key) (old new : W)
    (same : Same F G) where
  pub whole-same : (n : ℕ) → WritesWhole written F key old new n
      → WritesWhole written G key old new n
  whole-same n h =
      let P : List ℕ → Type 0 = λ bs. Appends (written old) (written new) bs in
      record {
        info = h.info;
        whole = Whole-same F G key h.info same h.whole;
        bytes =
            subst P (object-same F G key h.info same) h.bytes;
        length_is = h.length_is;
        exact =
            ap length (sym (object-same F G key h.info same)) ∙ h.exact;
      }

  pub extract_fault-same : (f : ExtractFault) → TellsExtractFault written F key old new f
      → TellsExtractFault written G key old new f
  extract_fault-same NoObject h =
      ((λ part. sym (same.each (record { key = key; part = part })) ∙ h.0 part), h.1)
  extract_fault-same NoInformation h =
      let heard = h.0.0 in (
        (
          (heard.0, λ e. heard.1 (same.each (record { key = key; part = heard.0 }) ∙ e)),
          sym
              (same.each (info_address key)) ∙ h.0.1,
        ),
        h.1,
      )
  extract_fault-same ConflictingInformation h = (sym (same.each (info_address key)) ∙ h.0, h.1)
  extract_fault-same (NotWhole first) h = (
    record {
      info = h.0.info;
      information = sym (same.each (info_address key)) ∙ h.0.information;
      gap = h.0.gap;
      others = h.0.others;
      gaps_are = sym (gaps-same F G key h.0.info same) ∙ h.0.gaps_are;
      first_is = h.0.first_is;
    },
    h.1,
  )
  extract_fault-same Write h =
      let P : List ℕ → Type 0 = λ bs. AppendsPart (written old) (written new) bs in
      record {
        info = h.info;
        whole = Whole-same F G key h.info same h.whole;
        bytes =
            subst P (object-same F G key h.info same) h.bytes;
      }
