-- What a merge of two streams of journals gives, stated of the two journals (specs/Merges).
use Rattle.flute_streams.proofs.Common.{AppendsPartOf, Behaviour, Collects, Each}
use Rattle.flute_streams.proofs.Common.{EachSince, Either, Err, Fact, FailAs, First, FirstFails}
use Rattle.flute_streams.proofs.Common.{MergedJournal, Journal, KeepsUp, LentStream, List}
use Rattle.flute_streams.proofs.Common.{LoadFault, MergeGives, Merged, MergedAll, NamesFault}
use Rattle.flute_streams.proofs.Common.{NamesInput, OneFails, Option, Read}
use Rattle.flute_streams.proofs.Common.{ReadFault, ReadsAhead, Same, Same-append, Same-sym}
use Rattle.flute_streams.proofs.Common.{Same-trans, Second, SecondFails, Some, StopsShort}
use Rattle.flute_streams.proofs.Common.{StreamsFault, [], all_of, ap}
use Rattle.flute_streams.proofs.Common.{append-nil, arith, either_behaviour, false, lent}
use Rattle.flute_streams.proofs.Common.{lent_behaviour, limit_of, rules, source_of}
use Rattle.flute_streams.proofs.Common.{subst, suc, unread_of, written_up_to, zero}
use Rattle.flute_streams.proofs.Common.{ℕ, ◌++◌, ◌∙◌, ◌∷◌, ◌≡◌}
use Rattle.flute_streams.specs.declared.merge.two_streams.MergeFault.{MergeFault}
use Rattle.flute_streams.specs.Merges.{AppendedUpTo}
use Rattle.flute_streams.specs.Pairs.{fault_at, IsFaultAt, IsFaultOfTwo, IsOfReading}
use Rattle.flute_journal.proofs.Public.{journal_parts}

-- if two journals have these facts, the entries of both have the values of all these facts
same_entries : (es fs ws F G : List Fact) → Same F es → Same G fs → Same (F ++ G) ws
    → Same (es ++ fs) ws
same_entries es fs ws F G p q r = search (rules, Same-trans, Same-append, Same-sym)

begins : (k : ℕ) (f : LoadFault) (merge : MergeFault) (bytes : List ℕ) (entries : List Fact)
    → IsFaultAt k f merge → bytes ≡ written_up_to entries → AppendedUpTo merge bytes entries
begins = search rules

module _ {A B : Type 0} (ua : A → Option (List ℕ)) (ba : A → List ℕ) (fa : A → ℕ)
    (ub : B → Option (List ℕ)) (bb : B → List ℕ) (fb : B → ℕ) where
  abbrev both : Behaviour (Either (LentStream A) (LentStream B))
  both = either_behaviour (lent_behaviour ua ba fa) (lent_behaviour ub bb fb)

  module _ (s s' : LentStream A) (t t' : LentStream B) where
    abbrev u : Option (List ℕ)
    u = unread_of ua ba (lent s)

    abbrev v : Option (List ℕ)
    v = unread_of ub bb (lent t)

    abbrev inputs : List (Either (LentStream A) (LentStream B))
    inputs = First s ∷ Second t ∷ []

    abbrev after : List (Either (LentStream A) (LentStream B))
    after = First s' ∷ Second t' ∷ []

    -- the facts of the first and of the second
    record Two (P Q : List Fact → Type 0) (or_failed : List (List Fact)) : Type 0 where
      pub first : List Fact
      pub second : List Fact
      pub of_first : P first
      pub of_second : Q second
      pub all : all_of or_failed ≡ first ++ second

    each_two : (P : Either (LentStream A) (LentStream B) → List Fact → Type 0)
        (or_failed : List (List Fact)) → Each P inputs or_failed
        → Two (P (First s)) (P (Second t)) or_failed
    each_two = search rules

    pub merged_two : {x o y : ℕ} {joined : MergedJournal} {w w' : Option (List ℕ)} → limit_of
        t.reader.now ≡ limit_of s.reader.now → joined.cut ≡ false → MergedAll both inputs x o y
        joined w w' → Merged (limit_of s.reader.now) joined.entries u v w w'
    merged_two {joined} {w} {w'} same done m =
        let t = each_two both.tells _ m.tell in
        record {
          first_entries = t.first;
          second_entries = t.second;
          first_is = search rules;
          second_is = search rules;
          writes = rw (← t.all) (rw (← done) m.puts);
        }

    since_two : (P : Either (LentStream A) (LentStream B) → Either (LentStream A) (LentStream B) →
        List Fact → Type 0) (or_failed : List (List Fact)) → EachSince P inputs after or_failed →
        Two (P (First s) (First s')) (P (Second t) (Second t')) or_failed
    since_two = search rules

    journal_of : (es fs : List Fact) (whole : List ℕ) (F G : List Fact) → Same F es
        → Same G fs → Journal whole (F ++ G) → Journal whole (es ++ (fs ++ []))
    journal_of es fs whole F G p q j = grind (arith, append-nil, same_entries)

    -- what was appended by a merge that stopped is no journal, and a prefix if both are journals
    short_two : {w w' : Option (List ℕ)} → AppendsPartOf both inputs w w' → StopsShort u v w w'
    short_two p = record {
      bytes = p.bytes;
      appended = p.appended;
      no_journal = p.no_journal;
      prefix = λ xs ys whole F G x y (a, first) (b, second) n. let j = journal_parts a xs F
          first in
          let k = journal_parts b ys G second in
          p.prefix (j.entries ∷ k.entries ∷ []) (
            record {
              version = a;
              bytes_are = x ∙ ap Some j.bytes_are;
              valid = j.valid;
              rising = j.collects.rising;
            },
            (
              record {
                version = b;
                bytes_are = y ∙ ap Some k.bytes_are;
                valid = k.valid;
                rising = k.collects.rising;
              },
              tt,
            ),
          ) _ (journal_of _ _ _ F G j.collects.same k.collects.same n);
    }

    -- what was read of both, and what was appended
    keeps_two : {w w' : Option (List ℕ)} {fault : StreamsFault} (merge : MergeFault)
        → IsFaultOfTwo fault merge → ReadsAhead both inputs after w w' fault
        → KeepsUp u (unread_of ua ba (lent s')) v (unread_of ub bb (lent t')) w w' merge
    keeps_two merge is r =
        let two = since_two both.reads _ r.reads in
        record {
          first_entries = two.first;
          second_entries = two.second;
          first_read = two.of_first;
          second_read = two.of_second;
          entries = r.entries;
          collects = subst (λ l. Collects l r.entries) two.all r.collects;
          bytes = r.bytes;
          appended = r.appended;
          begins = search rules;
        }

    -- the fault that is reported is that of the input it names

    names_two : (fault : StreamsFault) (merge : MergeFault) → IsFaultOfTwo fault merge
        → limit_of t.reader.now ≡ limit_of s.reader.now → NamesInput both inputs fault
        → NamesFault (limit_of s.reader.now) u v merge
    names_two = search rules

    pub reading_two : (fault : StreamsFault) → NamesInput both inputs fault → IsOfReading fault
    reading_two = search rules

    pub stopped_two : {w w' : Option (List ℕ)} {fault : StreamsFault} {merge : MergeFault} →
        IsFaultOfTwo fault merge → limit_of t.reader.now ≡ limit_of s.reader.now → AppendsPartOf
        both inputs w w' → ReadsAhead both inputs after w w' fault → NamesInput both inputs fault →
        MergeGives (limit_of s.reader.now) u (unread_of ua ba (lent s')) v
        (unread_of ub bb (lent t')) w w' (Err merge)
    stopped_two {fault} {merge} is same p r n = record {
      short = short_two p;
      keeps_up = keeps_two _ is r;
      names = names_two _ _ is same n;
    }

    -- how often the sources failed
    pub record FailTwo (merge : MergeFault) : Type 0 where
      pub first : FirstFails (fa (source_of s.reader.now).now) (fa (source_of s'.reader.now).now)
          (Err merge)
      pub second : SecondFails (fb (source_of t.reader.now).now) (fb (source_of t'.reader.now).now)
          (Err merge)

    fail_at : (k : ℕ) (f : ReadFault) → OneFails both k (Read f) inputs after
        → FailTwo (fault_at k f)
    fail_at zero f h = record { first = h.0.0.failed_as; second = h.1.0.0.failed_as }
    fail_at (suc zero) f h = record { first = h.0.0.failed_as; second = h.1.0.0.failed_as }
    fail_at (suc (suc k)) f h = absurd (no_more k h.1.1)
      where
        no_more : (k : ℕ) → OneFails both k (Read f) [] [] → ⊥
        no_more zero h = h
        no_more (suc k) h = h

    fail_of : (k : ℕ) (f : LoadFault) (merge : MergeFault) → IsFaultAt k f merge
        → OneFails both k f inputs after → FailTwo merge
    fail_of = search (rules, fail_at)

    pub fail_two : (fault : StreamsFault) (merge : MergeFault) → IsFaultOfTwo fault merge
        → FailAs both {T = MergedJournal} (Err fault) inputs after → FailTwo merge
    fail_two = search (rules, fail_of)
