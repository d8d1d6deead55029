-- next_words: bytes that lie in memory, and then one byte more of the line.
use Rattle.std.proofs.Common.{◌∙◌, ◌==◌, [], ap, sym, subst, arith, length}
use Rattle.std.specs.Io.KnownBytes.{Consumes}
use Rattle.std.proofs.KnownBytes.{Consumes-trans}
use Rattle.std.proofs.lemmas.Bool.{false≢true}
use Rattle.flutejoin.specs.NextWords.{TakesWords}
use Rattle.flutejoin.specs.ListedLines.{IsOneLine}
use Rattle.flutejoin.proofs.fill_lemmas.ListSteps.{at_its_end, byte_is, ended_there, longer}
use Rattle.flutejoin.proofs.fill_lemmas.ListSteps.{one_byte, one_line_more, taken_more}
use Rattle.flutejoin.proofs.lines.next_words.next_words.Goals as goal

pub returns-else-is_empty-clause-fails : goal.returns-else-is_empty-clause-fails
returns-else-is_empty-clause-fails g c =
    let u = g.R.Source.unread in
    let i = c.loop-text.invariant in
    let t = subst (TakesWords (u c.loop-text.source) (u c.take_lent.new.source) c.loop-text.text
    c.take_lent.new.text) c.if-take_lent.false c.take_lent.ensures.takes in
    let m = taken_more _ _ _ _ _ i.so_far i.one_line t in
    at_its_end _ _ _ _ _ _ m.0 m.1 c.in-Ok.ensures.bytes.0 (
      c.if-count-eq0.true,
      c.in-Ok.ensures.bytes.1 c.if-count-eq0.true (omega (arith, c.read.auto.buffer)),
    ) (λ e.
    false≢true (sym c.if-is_empty.false ∙ c.is_empty.ensures ∙ ap (λ l. length l == 0)
    (c.as_slice.ensures ∙ e)))

pub returns-then-byte-eq10-clause-gives : goal.returns-then-byte-eq10-clause-gives
returns-then-byte-eq10-clause-gives g c =
    let u = g.R.Source.unread in
    let i = c.loop-text.invariant in
    let t = subst (TakesWords (u c.loop-text.source) (u c.take_lent.new.source) c.loop-text.text
    c.take_lent.new.text) c.if-take_lent.false c.take_lent.ensures.takes in
    let m = taken_more _ _ _ _ _ i.so_far i.one_line t in
    let buf = c.read.new.buffer in
    let one = c.read.auto.buffer in
    let all = one_byte _ _ one c.in-Ok.ensures.bound c.if-count-eq0.false in
    ended_there _ _ _ _ m.0 m.1 (subst
    (λ b. Consumes (u c.take_lent.new.source) (u c.read.new.self) b)
    (all ∙ byte_is _ one c.if-byte-eq10.true) c.in-Ok.ensures.bytes.0)

pub returns-then-as_slice-eq-ROOM-clause-fails : goal.returns-then-as_slice-eq-ROOM-clause-fails
returns-then-as_slice-eq-ROOM-clause-fails g c =
    let u = g.R.Source.unread in
    let i = c.loop-text.invariant in
    let t = subst (TakesWords (u c.loop-text.source) (u c.take_lent.new.source) c.loop-text.text
    c.take_lent.new.text) c.if-take_lent.false c.take_lent.ensures.takes in
    let m = taken_more _ _ _ _ _ i.so_far i.one_line t in
    let buf = c.read.new.buffer in
    let one = c.read.auto.buffer in
    let all = one_byte _ _ one c.in-Ok.ensures.bound c.if-count-eq0.false in
    let read = subst (λ b. Consumes (u c.take_lent.new.source) (u c.read.new.self) b) all
    c.in-Ok.ensures.bytes.0 in longer _ _ _ _ (Consumes-trans _ _ _ _ _ m.0 read) one
    (ap length (sym c.as_slice-in-loop-text.ensures) ∙ c.if-as_slice-eq-ROOM.true)
    (one_line_more _ _ one c.if-byte-eq10.false m.1)

pub loop-text-preserved : goal.loop-text-preserved
loop-text-preserved g c =
    let u = g.R.Source.unread in
    let i = c.loop-text.invariant in
    let t = subst (TakesWords (u c.loop-text.source) (u c.take_lent.new.source) c.loop-text.text
    c.take_lent.new.text) c.if-take_lent.false c.take_lent.ensures.takes in
    let m = taken_more _ _ _ _ _ i.so_far i.one_line t in
    let buf = c.read.new.buffer in
    let one = c.read.auto.buffer in
    let all = one_byte _ _ one c.in-Ok.ensures.bound c.if-count-eq0.false in
    let read = subst (λ b. Consumes (u c.take_lent.new.source) (u c.read.new.self) b) all
    c.in-Ok.ensures.bytes.0 in record {
      so_far = subst (λ b. Consumes (u c.args.source.now) (u c.read.new.self) b)
          (sym c.push_bytes.ensures.text) (Consumes-trans _ _ _ _ _ m.0 read);
      one_line = subst IsOneLine (sym c.push_bytes.ensures.text)
          (one_line_more _ _ one c.if-byte-eq10.false m.1);
      few = omega (
        arith,
        c.push_bytes.ensures.len,
        one,
        c.take_lent.ensures.room,
        c.if-as_slice-eq-ROOM.false,
        ap length c.as_slice-in-loop-text.ensures,
      );
      failures = omega (arith, c.in-Ok.ensures.failures, c.take_lent.ensures.failures, i.failures);
    }
