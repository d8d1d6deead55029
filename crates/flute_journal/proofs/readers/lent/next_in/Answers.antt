-- next_in: the symbol it returns is the entry at the front of the bytes, without a fault.
-- The symbol's entry lies in front of the bytes.
use Rattle.flute_journal.proofs.Common.{Two, ap, arith, byte_of, take, ◌∙◌}
use Rattle.flute_journal.proofs.Numbers.{octets}
use Rattle.flute_journal.proofs.readers_lemmas.Seen.{symbol_begins}
use Rattle.flute_journal.proofs.readers.lent.next_in.Goals as goal

pub returns : goal.returns
returns c =
    let x = c.in_ok-id in
    let found = c.in_ok-symbol.ensures.lookup.0 in
    symbol_begins Two x.ensures.0.0 x.ensures.0.1 x.ensures.1 (record {
      octets = octets c.args.bytes.now (λ i. (c.type_inv.bytes i).fits);
      first = c.in_ok-first.field-0-0.now;
      back = c.in_ok-first.rest.now;
      first_is = c.in-Some-Symbol.ensures ∙ ap byte_of c.in-Some-Symbol.field-0-is;
      is = c.in_ok-first.ensures.cases.0;
      size = c.head_size.result;
      rest = c.in_ok-head.rest.now;
      split = c.in_ok-head.ensures.cases;
      symbol_is = found.2 ∙ ap (λ n. take n c.in_ok-head.rest.now) (omega (arith, c.from.ensures));
      whole = omega (arith, found.3, c.from.ensures);
    })
