-- join_held: each exit is a lemma on the streams, of which the inputs are those that were lent.
use Rattle.std.proofs.Common.{rules}
use Rattle.std.proofs.Common.{◌≡◌, ◌+◌, ◌-◌, ap, arith, length, List, ◌∷◌, subst, sym}
use Rattle.flute_streams.specs.Chains.{beside, taken}
use Rattle.flute_streams.specs.FirstFaults.{FirstFault}
use Rattle.flute_streams.specs.StreamMerges.{EndsMerged, NoneFails}
use Rattle.std.proofs.lemmas.Option.{slice_get_within}
use Rattle.flute_streams.proofs.Public.{beside_many}
use Rattle.flutejoin.specs.declared.join.join_input.JoinInput.{JoinInput}
use Rattle.flutejoin.specs.JoinParts.{joined_behaviour}
use Rattle.flutejoin.proofs.join_lemmas.JoinStreams.{all_few, all_new, all_taken, joins_inspected}
use Rattle.flutejoin.proofs.join_lemmas.JoinStops.{none_failed, read_failed}
use Rattle.flutejoin.proofs.join_lemmas.JoinStops.{stopped_held, stopped_in}
use Rattle.std.proofs.lemmas.Bool.{cases_lt}
use Rattle.std.proofs.Common.{inl, inr, ℕ, Option, ◌<◌, ◌≤◌}
use Rattle.std.specs.List.{AllByRecursion}
use Rattle.flute_streams.specs.Streams.{Behaviour}
use Rattle.flute_streams.specs.declared.merge.streams_fault.InputFault.{InputFault}
use Rattle.flute_journal.specs.declared.fault.LoadFault.{LoadFault}
use Rattle.flutejoin.specs.Status.{of_load, of_stop}
use Rattle.flutejoin.specs.JoinParts.{IsReady, StopsJoin}
use Rattle.flutejoin.proofs.join.join_held.Goals as goal

pub join_streams-requires-clause-new : goal.join_streams-requires-clause-new
join_streams-requires-clause-new g c =
    all_new g.R.Source.unread g.R.Source.buffered g.R.Source.failures g.G.Streams.behaviour
    (g.G.Streams.streams c.args.held.now) c.args.inputs.now c.requires.held c.requires.few
    c.requires.ready

pub join_streams-requires-clause-few : goal.join_streams-requires-clause-few
join_streams-requires-clause-few g c =
    all_few g.R.Source.unread g.R.Source.buffered g.R.Source.failures g.G.Streams.behaviour
    (g.G.Streams.streams c.args.held.now) c.args.inputs.now c.requires.held c.requires.few
    c.requires.ready

all_many : {X : Type 0} (xs : List X) → length xs ≤ 64 → length (taken xs) ≡ length xs
all_many xs few = ap length (all_taken xs few)

-- the first of the references that were lent is still this one
first_is : {X : Type 0} {a c : X} {others more : List X} → a ∷ others ≡ c ∷ more → c ≡ a
first_is e = cc

pub overflow_add-fault : goal.overflow_add-fault
overflow_add-fault g c =
    let held = g.G.Streams.streams c.args.held.now in
    let within = slice_get_within _ c.in-Err.fault.number _ c.in-Err.ensures.first.stopped.was in
    omega (
      arith,
      within,
      c.requires.held.many,
      c.requires.few,
      beside_many (taken held) (taken c.args.inputs.now),
      all_many held c.requires.held.many,
      all_many c.args.inputs.now c.requires.few,
    )

pub returns-in-Ok-clause-joined : goal.returns-in-Ok-clause-joined
returns-in-Ok-clause-joined g c = λ choice contents datagrams facts most inspected ends. let b =
    g.G.Streams.behaviour in
    let joins = joined_behaviour g.R.Source.unread g.R.Source.buffered g.R.Source.failures b in
    let held = g.G.Streams.streams c.args.held.now in
    let nows = taken (g.G.Streams.streams c.join_streams.new.streams.first.now) in
    let P = λ (xs : List (JoinInput g.row.R.Denot)). EndsMerged joins
    (beside (taken held) (taken c.args.inputs.now)) (beside nows (taken xs)) g.row.SESSIONS
    g.row.OBJECTS g.row.SYMBOLS c.in-Ok.joined (g.W.Sink.written c.args.sink.now)
    (g.W.Sink.written c.join_streams.new.sink) in joins_inspected g.R.Source.unread
    g.R.Source.buffered g.R.Source.failures b choice held c.args.inputs.now _ c.requires.ready
    inspected ends nows c.requires.held.many c.requires.few c.inputs-1.given.1.0 most (subst P
    (sym (c.inputs-1.given.1.1 (first_is c.join_streams.ensures.names))) c.in-Ok.ensures.ended)

pub returns-in-Ok-clause-none_failed : goal.returns-in-Ok-clause-none_failed
returns-in-Ok-clause-none_failed g c =
    let b = g.G.Streams.behaviour in
    let joins = joined_behaviour g.R.Source.unread g.R.Source.buffered g.R.Source.failures b in
    let held = g.G.Streams.streams c.args.held.now in
    let nows = taken (g.G.Streams.streams c.join_streams.new.streams.first.now) in
    let P = λ (xs : List (JoinInput g.row.R.Denot)). NoneFails joins
    (beside (taken held) (taken c.args.inputs.now)) (beside nows (taken xs)) in none_failed
    g.R.Source.unread g.R.Source.buffered g.R.Source.failures b held nows c.requires.held.many
    c.requires.few c.inputs-1.given.1.0 (subst P
    (sym (c.inputs-1.given.1.1 (first_is c.join_streams.ensures.names))) c.in-Ok.ensures.failures)

-- the number of the stream at which it stopped: below this it is held, and behind it an input
in_front : (held number told : ℕ) → told ≡ (number + 1) - held → number < held → told ≡ 0
in_front held number told is near = omega (arith, is, near)

later_fault : (number told : ℕ) (fault : LoadFault) → told ≡ number + 1
    → of_load (number + 1) fault ≡ of_stop told fault
later_fault x0 x1 x2 x3 = search rules

module _ {R S : Type 0} (unread : R → Option (List ℕ)) (buffered : R → List ℕ)
    (failures : R → ℕ) (b : Behaviour S) {held : List S} (nows : List S)
    {xs ys : List (JoinInput R)} (few : length held ≤ 64) (many : length xs ≤ 64) (same : length ys ≡ length xs)
    (as_many : length nows ≡ length held)
    (ready : AllByRecursion (IsReady unread buffered failures) xs) where
  -- why it stopped
  why : (first : InputFault) → FirstFault (joined_behaviour unread buffered failures b)
      (beside (taken held) (taken xs)) (beside nows (taken ys)) first
      → (told : ℕ) → told ≡ (first.number + 1) - length held
      → StopsJoin unread buffered failures b held xs ys (of_stop told first.fault)
  why first f told is = elim (cases_lt first.number (length held)) [
    | inl near ↦
        let one = stopped_held unread buffered failures b held xs few many first f near in
        subst (λ n. StopsJoin unread buffered failures b held xs ys (of_stop n first.fault))
        (sym (in_front (length held) first.number told is near)) (record {
          fails = λ choice contents datagrams inspected never. one.fails choice contents datagrams
              ready inspected never;
          names = one.names;
          no_memory = one.no_memory;
          no_sink = one.no_sink;
          no_aside = one.no_aside;
          reads = λ number e. absurd cc;
        })
    | inr far ↦
        let place = first.number - length held in
        let at : first.number ≡ length held + place = omega (arith, far) in
        let one = stopped_in unread buffered failures b held xs few many first f place at in
        subst (λ g. StopsJoin unread buffered failures b held xs ys g)
        (later_fault place told first.fault (omega (arith, is, far))) (record {
          fails = λ choice contents datagrams inspected never. one.fails choice contents datagrams
              ready inspected never;
          names = one.names;
          no_memory = one.no_memory;
          no_sink = one.no_sink;
          no_aside = one.no_aside;
          reads = λ number e. read_failed unread buffered failures b held nows few many same as_many
              f place at number e;
        })
  ]

pub returns-in-Err-clause-stopped : goal.returns-in-Err-clause-stopped
returns-in-Err-clause-stopped g c =
    let b = g.G.Streams.behaviour in
    let joins = joined_behaviour g.R.Source.unread g.R.Source.buffered g.R.Source.failures b in
    let held = g.G.Streams.streams c.args.held.now in
    let xs = c.args.inputs.now in
    let nows = taken (g.G.Streams.streams c.join_streams.new.streams.first.now) in
    let is = sym (c.inputs-1.given.1.1 (first_is c.join_streams.ensures.names)) in
    let P = λ (ys : List (JoinInput g.row.R.Denot)). FirstFault joins (beside (taken held) (taken xs))
    (beside nows (taken ys)) c.in-Err.fault in
    let Q = λ (ys : List (JoinInput g.row.R.Denot)). length (beside nows (taken ys))
    ≡ length (beside (taken held) (taken xs)) in
    let lent = subst Q is c.join_streams.ensures.as_many in
    let same = c.inputs-1.given.1.0 in
    let as_many : length nows ≡ length held =
    omega (
      arith,
      lent,
      same,
      c.requires.few,
      beside_many (taken held) (taken xs),
      beside_many nows (taken c.inputs-1.given.0),
      all_many held c.requires.held.many,
      all_many xs c.requires.few,
      all_many c.inputs-1.given.0 (omega (arith, same, c.requires.few)),
    ) in
    why g.R.Source.unread g.R.Source.buffered g.R.Source.failures b nows c.requires.held.many
    c.requires.few same as_many c.requires.ready c.in-Err.fault (subst P is c.in-Err.ensures.first)
    _ (omega (arith, c.saturating_sub.ensures, c.count-of_held.ensures))
