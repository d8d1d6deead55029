-- entry_in: the symbol it returns is the entry at the front of the bytes, without a fault.
-- The symbol's entry lies in front of the bytes.
use Rattle.std.proofs.Common.{arith}
use Rattle.flute_journal.proofs.{
  Common.{ap, arith, byte_of, take, ◌∙◌},
  Numbers.{octets},
  readers_lemmas.Seen.{symbol_begins},
}
use Rattle.flute_journal.proofs.readers.lent.entry_in.Goals as goal

pub returns : goal.returns
returns c =
    let x = c.in_ok-key in
    let found = c.in_ok-symbol.ensures.lookup.0 in
    symbol_begins c.args.version x.ensures.0.0 x.ensures.0.1 x.ensures.1 (record {
      octets = octets c.args.bytes.now (λ i. (c.type_inv.bytes i).fits);
      first = c.in_ok-first.field-0-0.now;
      back = c.in_ok-first.rest.now;
      first_is = c.in-Some-Symbol.ensures ∙ ap byte_of c.in-Some-Symbol.field-0-is;
      is = c.in_ok-first.ensures.cases.0;
      size = c.head_size.result;
      rest = c.in_ok-head.rest.now;
      split = c.in_ok-head.ensures.cases;
      symbol_is = found.2 ∙ ap (λ n. take n c.in_ok-head.rest.now) (omega (arith, c.from.ensures));
      whole = omega (arith, found.3, c.from.ensures);
    })
