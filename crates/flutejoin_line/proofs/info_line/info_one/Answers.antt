-- info_one: three numbers that are no information, of an object with a key.
use Rattle.std.proofs.Common.{refl, rules}
use Rattle.flute_parts.specs.Information.{information}
use Rattle.flutejoin_line.proofs.info_line.info_one.Goals as goal

pub returns-in-Err : goal.returns-in-Err
returns-in-Err c = (
  c.in_ok-given.ensures,
  record {
    key = c.in_ok-key.key;
    is_key = search rules;
    info = information c.in_ok-length.field-0 c.in_ok-symbol.field-0 c.in_ok-block.field-0;
    are = record {
      length = c.in_ok-length.field-0;
      symbol = c.in_ok-symbol.field-0;
      block = c.in_ok-block.field-0;
      is_length = c.in_ok-length.ensures;
      is_symbol = c.in_ok-symbol.ensures;
      is_block = c.in_ok-block.ensures;
      same = refl;
    };
    why = c.in-Err.ensures;
  },
)
