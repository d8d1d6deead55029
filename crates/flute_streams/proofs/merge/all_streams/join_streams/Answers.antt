-- join_streams: the first fault, and what was joined.
use Rattle.flute_streams.proofs.Common.{ℕ, EndsMerged, List, Option, rules, length, ap}
use Rattle.flute_streams.proofs.Common.{slice_get_within, subst, ◌≡◌, ◌∙◌, ◌∷◌, [], zero, suc}
use Rattle.flute_streams.proofs.Common.{Behaviour, Err, FailAs, Input, InputFault, LoadFault}
use Rattle.flute_streams.proofs.Common.{MergedJournal, NoneFails, OneFails, StreamsFault, refl}
use Rattle.flute_parts.proofs.Public.{of_equal}
use Rattle.flute_streams.proofs.merge_lemmas.Finished.{stopped_of}
use Rattle.flute_streams.proofs.merge.all_streams.join_streams.Goals as goal

pub first_fault-requires : goal.first_fault-requires
first_fault-requires g c =
    let e = c.in-Err-Input.ensures in
    let new = g.G.Streams.streams c.merge_into.new.streams in
    let h = stopped_of g.G.Streams.behaviour _ c.in-Err-Input.fault
    (g.G.Streams.streams c.args.streams.now) new c.in-Err-Input.field-0-is e.fault e.failures in
    slice_get_within new c.in-Err-Input.fault.number h.stop.stream h.stop.is

pub returns-in-Ok-clause-ended : goal.returns-in-Ok-clause-ended
returns-in-Ok-clause-ended g c =
    let E : Option (List ℕ) → Option (List ℕ) → Type 0 = λ u v. EndsMerged g.G.Streams.behaviour
    (g.G.Streams.streams c.args.streams.now) (g.G.Streams.streams c.merge_into.new.streams)
    g.row.SESSIONS g.row.OBJECTS g.row.SYMBOLS c.in-Ok.joined u v in
    let sink = c.merge_into.new.writer.sink.now in
    let ends : E (g.W.Sink.written c.args.sink.now) (g.W.Sink.written sink) = search rules in
    of_equal g.W.Sink.written (E (g.W.Sink.written c.args.sink.now)) ends _ (search rules)

-- of streams that were read there are as many as before
module _ {S : Type 0} (b : Behaviour S) where
  none_many : (old now : List S) → NoneFails b old now → length now ≡ length old
  none_many [] [] h = refl
  none_many (s ∷ old) (t ∷ now) h = ap (λ n. suc n) (none_many old now h.1)
  none_many [] (t ∷ now) h = absurd h
  none_many (s ∷ old) [] h = absurd h

  one_many : (number : ℕ) (fault : LoadFault) (old now : List S)
      → OneFails b number fault old now → length now ≡ length old
  one_many zero fault (s ∷ old) (t ∷ now) h = ap (λ n. suc n) (none_many old now h.1)
  one_many (suc number) fault (s ∷ old) (t ∷ now) h =
      ap (λ n. suc n) (one_many number fault old now h.1)
  one_many zero fault [] now h = absurd h
  one_many zero fault (s ∷ old) [] h = absurd h
  one_many (suc number) fault [] now h = absurd h
  one_many (suc number) fault (s ∷ old) [] h = absurd h

  many_of : (fault : StreamsFault) (i : InputFault) (old now : List S) → fault ≡ Input i
      → FailAs b {T = MergedJournal} (Err fault) old now → length now ≡ length old
  many_of fault i old now e h =
      one_many i.number i.fault old now
      (subst (λ f. FailAs b {T = MergedJournal} (Err f) old now) e h)

pub returns-in-Ok-clause-as_many : goal.returns-in-Ok-clause-as_many
returns-in-Ok-clause-as_many g c = none_many g.G.Streams.behaviour _ _ c.in-Ok.ensures.failures

pub returns-in-Err-Input-clause-as_many : goal.returns-in-Err-Input-clause-as_many
returns-in-Err-Input-clause-as_many g c = c.first_fault.ensures.as_many ∙
    many_of g.G.Streams.behaviour _ c.in-Err-Input.fault _ _ c.in-Err-Input.field-0-is
    c.in-Err-Input.ensures.failures
