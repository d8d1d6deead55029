-- send_symbols: each packet is written after those before it.
use Rattle.std.proofs.Common.{◌≡◌, ◌*◌, ◌<◌, ◌∙◌, ℕ, List, Some, Ok, Err, Result}
use Rattle.std.proofs.Common.{length, max, take, drop, ap, sym, subst, arith, false}
use Rattle.std.proofs.lemmas.Result.{err_from_is_err_and}
use Rattle.flute_parts.specs.Information.{Information}
use Rattle.flute_parts.specs.Partition.{ids}
use Rattle.flute_parts.specs.declared.key.Key.{Key}
use Rattle.flute_wire.specs.Carousel.{packets_of}
use Rattle.flutejoin.specs.Extract.{SinkFails}
use Rattle.flutejoin.proofs.carousel_lemmas.SentReads.{reads_back}
use Rattle.flutejoin.specs.Sending.{ReadFailures, ReadsOf, UnlessRead, SendsPackets, Makes}
use Rattle.flutejoin.specs.Sending.{packet_with}
use Rattle.flutejoin.specs.declared.command_fault.CommandFault.{CommandFault}
use Rattle.flutejoin.proofs.carousel_lemmas.SentSoFar.{SentSoFar, reads_on, left_are, sent_next}
use Rattle.flutejoin.proofs.carousel_lemmas.SentSoFar.{fails_at, sent_all}
use Rattle.flutejoin.proofs.carousel_lemmas.SentSoFar.{sent_part, unless_on, sink_fails}
use Rattle.flutejoin.proofs.carousel.sending.send_symbols.Goals as goal

-- the packet made of equal keys and information is the same
makes_same : {k key : Key} {j i : Information} (place : ℕ) (rest : List ℕ)
    (r : Result (List ℕ) CommandFault) → (k ≡ key) × (j ≡ i)
    → Makes (packet_with k j place (take j.symbol_length rest)) r
    → Makes (packet_with key i place (take i.symbol_length rest)) r
makes_same {k} {i} place rest r same made =
    subst (λ x. Makes (packet_with x i place (take i.symbol_length rest)) r) same.0
    (subst (λ x. Makes (packet_with k x place (take x.symbol_length rest)) r) same.1 made)

pub returns-in_err-datagram-clause-reads : goal.returns-in_err-datagram-clause-reads
returns-in_err-datagram-clause-reads g c =
    let e = err_from_is_err_and _ c.from_residual.ensures.1 in
    let f = c.in_err-datagram.field-0.0 in
    let u = g.R.Source.unread c.args.source.now in
    let v = g.R.Source.unread c.loop-place.source in
    let w = g.R.Source.unread c.next.new.source in
    let is = e.1 ∙ ap (λ x. Err x) e.2 in
    subst (λ r. UnlessRead r (ReadsOf u w c.args.sending.now.left c.next.new.self.left)) (sym is)
    (unless_on (List ℕ) ℕ _
    _ f
    (reads_on u v w _ _ _ c.loop-place.invariant.3) c.in_err-datagram.ensures.reads)

pub returns-in_err-datagram-clause-sends : goal.returns-in_err-datagram-clause-sends
returns-in_err-datagram-clause-sends g c = λ content known whole. let e = err_from_is_err_and _
    c.from_residual.ensures.1 in
    let f = c.in_err-datagram.field-0.0 in
    let is = e.1 ∙ ap (λ x. Err x) e.2 in
    let key = c.args.sending.now.key in
    let i = c.args.sending.now.info in
    let place = c.loop-place.place in
    let inv = c.loop-place.invariant in
    let s = inv.4 content known whole in
    let left = left_are inv.3 known s.rest whole in
    let count = c.symbols.ensures.value ∙ ap (λ p. length (ids p)) c.args.sending.now.same in
    let within : place < max (length (ids i)) 1 = omega
    (arith, c.loop-place-test.true, c.max-count.ensures, count) in subst (λ r. SendsPackets
    (packets_of key i content) (g.W.Sink.written c.args.sink.now)
    (g.W.Sink.written c.loop-place.sink) r) (sym is) (fails_at c.symbol.ensures.valid within f
    (whole ∙ c.requires) s
    (makes_same place _ (Err f) (inv.0, inv.1) (c.in_err-datagram.ensures.makes _ s.rest left)))

pub returns-in_err-datagram-clause-failures : goal.returns-in_err-datagram-clause-failures
returns-in_err-datagram-clause-failures g c =
    let e = err_from_is_err_and _ c.from_residual.ensures.1 in
    let f = c.in_err-datagram.field-0.0 in
    let is = e.1 ∙ ap (λ x. Err x) e.2 in
    subst (λ r. SinkFails (g.W.Sink.failures c.args.sink.now)
    (g.W.Sink.failures c.loop-place.sink) r) (sym is)
    (sink_fails _ _ _ f c.loop-place.invariant.5 c.in_err-datagram.ensures.only)

pub returns-in_err-datagram-clause-reading : goal.returns-in_err-datagram-clause-reading
returns-in_err-datagram-clause-reading g c =
    let e = err_from_is_err_and _ c.from_residual.ensures.1 in
    let f = c.in_err-datagram.field-0.0 in
    let is = e.1 ∙ ap (λ x. Err x) e.2 in
    let u = g.R.Source.unread c.args.source.now in
    subst (ReadFailures (g.R.Source.failures c.args.source.now)
    (g.R.Source.failures c.next.new.source) u c.args.sending.now.left) (sym is) (reads_back (List ℕ)
    ℕ f _ (c.loop-place.invariant.6, c.loop-place.invariant.3) c.in_err-datagram.ensures.reading)

pub loop-place-preserved : goal.loop-place-preserved
loop-place-preserved g c =
    let key = c.args.sending.now.key in
    let i = c.args.sending.now.info in
    let place = c.loop-place.place in
    let inv = c.loop-place.invariant in
    let next = c.in_ok-datagram.ensures in
    let put = c.put_record-failed.ensures in
    let u = g.R.Source.unread c.args.source.now in
    let v = g.R.Source.unread c.loop-place.source in
    let w = g.R.Source.unread c.next.new.source in
    let d = c.in_ok-datagram.datagram in
    let count = c.symbols.ensures.value ∙ ap (λ p. length (ids p)) c.args.sending.now.same in
    let within : place < max (length (ids i)) 1 = omega
    (arith, c.loop-place-test.true, c.max-count.ensures, count) in (
      next.same_key ∙ inv.0,
      next.same_info ∙ inv.1,
      omega (arith, c.next.auto.buffer, inv.2),
      reads_on u v w _ _ _ inv.3
          next.reads,
      λ content known whole. let s = inv.4 content known whole in
          let left = left_are inv.3 known s.rest whole in
          sent_next c.symbol.ensures.valid within d s
          (makes_same place _ (Ok d) (inv.0, inv.1) (next.makes _ s.rest left)) put.valid put.grows (subst
          (λ x. w ≡ Some (drop x.symbol_length (drop (place * i.symbol_length) content))) inv.1
          (next.rest _ s.rest left)),
      omega (arith, put.failures, inv.5),
      next.reading ∙ inv.6,
    )

pub returns-then-failed-clause-sends : goal.returns-then-failed-clause-sends
returns-then-failed-clause-sends g c = λ content known whole. let key = c.args.sending.now.key in
    let i = c.args.sending.now.info in
    let u = g.R.Source.unread c.loop-place.source in
    let old = g.W.Sink.written c.args.sink.now in
    let now = g.W.Sink.written c.loop-place.sink in
    let count = c.symbols.ensures.value ∙ ap (λ p. length (ids p)) c.args.sending.now.same in
    let all : c.loop-place.place ≡ max (length (ids i)) 1 = omega
    (arith, c.loop-place-test.false, c.loop-place.auto.place-end, c.max-count.ensures, count) in
    sent_part _ i _ c.symbol.ensures.valid _ all (subst
    (λ f. SentSoFar key i content c.loop-place.place u f old now) c.if-failed.true
    (c.loop-place.invariant.4 content known whole))

pub returns-clause-sends : goal.returns-clause-sends
returns-clause-sends g c = λ content known whole. let key = c.args.sending.now.key in
    let i = c.args.sending.now.info in
    let u = g.R.Source.unread c.loop-place.source in
    let old = g.W.Sink.written c.args.sink.now in
    let now = g.W.Sink.written c.loop-place.sink in
    let count = c.symbols.ensures.value ∙ ap (λ p. length (ids p)) c.args.sending.now.same in
    let all : c.max-count.result ≡ max (length (ids i)) 1 = omega
    (arith, c.max-count.ensures, count) in
    let end : c.loop-place.place ≡ c.max-count.result = omega
    (arith, c.loop-place-test.false, c.loop-place.auto.place-end) in sent_all _ i _
    c.symbol.ensures.valid _ all (subst (λ n. SentSoFar key i content n u false old now) end (subst
    (λ f. SentSoFar key i content c.loop-place.place u f old now) c.if-failed.false
    (c.loop-place.invariant.4 content known whole)))
