-- take_lent: the bytes that lie in memory, up to a line feed.
use Rattle.std.proofs.Common.{◌∙◌, ap}
use Rattle.std.specs.Prelude.{take}
use Rattle.flutejoin.proofs.fill_lemmas.ListSteps.{takes_end, takes_more}
use Rattle.flutejoin.proofs.lines.next_words.take_lent.Goals as goal

pub returns-then-count-lent-clause-takes : goal.returns-then-count-lent-clause-takes
returns-then-count-lent-clause-takes g c = takes_end _ _ _ _ _ _ _ _
    (c.at_most-lent.ensures ∙ ap (take _) c.buffer.ensures.buffered) c.if-count-lent.true
    c.line_len-count.ensures.before (c.line_len-count.ensures.stops c.if-count-lent.true)
    c.push_bytes.ensures.text c.consume.ensures.bytes

pub returns-clause-takes : goal.returns-clause-takes
returns-clause-takes g c = takes_more _ _ _ _ _ _ _ _
    (c.at_most-lent.ensures ∙ ap (take _) c.buffer.ensures.buffered) c.line_len-count.ensures.within
    c.line_len-count.ensures.before c.push_bytes.ensures.text c.consume-2.ensures.bytes
