-- hold_next: the entry that it holds lies behind the one that was held.
use Rattle.flute_journal.proofs.Common.{inr, refl}
use Rattle.flute_journal.proofs.readers_lemmas.Holding.{held_next}
use Rattle.flute_journal.proofs.readers.lent.hold_next.Goals as goal

pub returns-clause-holds : goal.returns-clause-holds
returns-clause-holds g c =
    let h = held_next {e = c.args.held.now} (record {
      buffer = c.buffer-buffer.result.now;
      lent = c.buffer-buffer.ensures.buffered;
      held = c.spelled-taken.ensures;
      front = c.buffer-buffer.ensures.front;
      begins = rw c.split_at.ensures.back at c.in_ok-id.ensures;
    }) c.consume.ensures.buffered c.consume.ensures.bytes in
    (refl, inr (h.valid.0, h.spelled), (h.valid, h.in_order, h.consumes))
