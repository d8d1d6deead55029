-- Tally::count: the symbol is counted after the session and the object.
use Rattle.std.proofs.Common.{ap, ◌∙◌}
use Rattle.flute_parts.specs.declared.address.Address.{Address}
use Rattle.flute_parts.proofs.Tallied.{count-information, count-symbol, over-symbol}
use Rattle.flute_parts.proofs.tally.Tally.count.Goals as goal

pub returns-then-not-count_key-clause-over : goal.returns-then-not-count_key-clause-over
returns-then-not-count_key-clause-over g c = λ F f e r k h. c.count_key.ensures.over F f
    (ap (λ a. a.key) e) r k c.if-not-count_key.true

pub returns-in-Info-clause-within : goal.returns-in-Info-clause-within
returns-in-Info-clause-within g c = λ F f e r k h. let key = ap (λ a. a.key) e in
    let counted = c.count_key.ensures.within F f key r k c.if-not-count_key.false in
    count-information F f _ r counted (ap (λ a. a.part) e ∙ c.in-Info.is)

pub returns-in-Symbol-clause-within : goal.returns-in-Symbol-clause-within
returns-in-Symbol-clause-within g c = λ F f e r k h. let key = ap (λ a. a.key) e in
    let counted = c.count_key.ensures.within F f key r k c.if-not-count_key.false in
    let more = c.add_one.ensures.added h in
    count-symbol F f _ r counted _ (ap (λ a. a.part) e ∙ c.in-Symbol.is) _ more.1 more.0

pub returns-in-Symbol-clause-over : goal.returns-in-Symbol-clause-over
returns-in-Symbol-clause-over g c = λ F f e r k h. let key = ap (λ a. a.key) e in
    let counted = c.count_key.ensures.within F f key r k c.if-not-count_key.false in
    over-symbol F f _ r counted _ (ap (λ a. a.part) e ∙ c.in-Symbol.is) (c.add_one.ensures.full h)
