-- HeldFiles::take: a datagram more, whether or not there was room for it.
use Rattle.std.proofs.Common.{refl, sym, ◌∙◌, inl, ap, Err, append-nil}
use Rattle.flute_parts.proofs.Public.{Same-itself}
use Rattle.flute_streams.specs.Objects.{is_taken}
use Rattle.flutejoin.specs.Joined.{choice_of}
use Rattle.flutejoin.specs.Limits.{at_most}
use Rattle.flutejoin.proofs.join_lemmas.Held.{holds_past, holds_over, holds_passed, holds_taken}
use Rattle.flutejoin.proofs.join_lemmas.Reasons.{counts_none, counts_one}
use Rattle.flutejoin.proofs.join_lemmas.Taking.{packet_taken, packet_passed, no_packet}
use Rattle.flutejoin.proofs.join.held_files.HeldFiles.take.Goals.{in-Ok+in-Ok-take_packet}
use Rattle.flutejoin.proofs.join.held_files.HeldFiles.take.Goals.{in-Ok-2, in-Err}
use Rattle.flutejoin.proofs.join.held_files.HeldFiles.take.Goals as goal

pub returns-then-not-self-clause-taken : goal.returns-then-not-self-clause-taken
returns-then-not-self-clause-taken g c = λ ds h.
    holds_past c.args.datagram.now c.if-not-self.true h

pub returns-in-Err-Full-clause-taken : goal.returns-in-Err-Full-clause-taken
returns-in-Err-Full-clause-taken g c = λ ds h.
    let choice =
    choice_of (at_most g.row.SESSIONS g.row.OBJECTS g.row.SYMBOLS) c.args.sender
    c.args.objects.now in
    let t =
    packet_taken choice c.args.datagram.now c.in-Ok.packet c.in-Ok.ensures.spelled
    (ap (is_taken c.args.objects.now) (sym c.key.ensures) ∙ sym c.takes.ensures
    ∙ c.if-takes.true) in
    holds_over c.args.datagram.now c.if-not-self.false refl t.told
    (inl (
      refl,
      c.take_packet.ensures.full.0 (c.in-Err-Full.is ∙ ap Err c.in-Err-Full.field-0-is),
    )) refl h

pub returns-clause-taken : goal.returns-clause-taken
returns-clause-taken g c = λ ds h.
    let d = c.args.datagram.now in
    let takes = is_taken c.args.objects.now in
    let store = c.args.self.now.told.store in
    let reasons = c.args.self.now.reasons in
    let fits = c.if-not-self.false in
    let choice =
    choice_of (at_most g.row.SESSIONS g.row.OBJECTS g.row.SYMBOLS) c.args.sender
    c.args.objects.now in
    elim c.match-read.branch [
      | in-Ok+in-Ok-take_packet w ↦
          let t =
          packet_taken choice d w.in-Ok.packet w.in-Ok.ensures.spelled
          (ap takes (sym w.key.ensures) ∙ sym w.takes.ensures ∙ w.if-takes.true) in
          rw w.self-is
          (holds_taken fits fits refl t.told refl t.own (record {
            content = w.in-Ok-take_packet.ensures.ok;
            datagrams = refl;
            refused = rw t.kept refl;
            reasons = counts_none reasons d w.in-Ok.packet w.in-Ok.ensures.refusal;
          }) h)
      | in-Ok-2 w ↦
          let t =
          packet_passed choice d w.in-Ok.packet w.in-Ok.ensures.spelled
          (ap takes (sym w.key.ensures) ∙ sym w.takes.ensures ∙ w.if-takes.false) in
          rw w.self-is (holds_passed fits fits refl t
          (counts_none reasons d w.in-Ok.packet w.in-Ok.ensures.refusal) refl refl h)
      | in-Err w ↦
          let t =
          no_packet choice d w.in-Err.why w.in-Err.ensures.refused.applies
          (λ p s. let ok = (w.in-Err.ensures.packet p).1 s in cc) in
          rw w.self-is
          (holds_taken fits fits refl t.none refl t.own (record {
            content = rw (append-nil store) (Same-itself store);
            datagrams = refl;
            refused = rw t.refused refl;
            reasons = counts_one reasons d w.add.new.self w.in-Err.why w.in-Err.ensures.refusal
                w.add.ensures.one w.add.ensures.others;
          }) h)
    ]
