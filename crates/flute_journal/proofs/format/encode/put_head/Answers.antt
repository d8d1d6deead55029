use Rattle.flute_journal.proofs.Common.{◌≡◌, ◌++◌, in_bytes, rules}
use Rattle.flute_journal.proofs.format_lemmas.Written.{regroup}
use Rattle.flute_journal.specs.Format.{info_bytes}
use Rattle.flute_journal.proofs.format.encode.put_head.Goals as goal

pub returns-in-Info-clause-bytes : goal.returns-in-Info-clause-bytes
returns-in-Info-clause-bytes c =
    let i = c.in-Info.info in
    let head = c.put_key.new.head.items in
    let put : c.put-in-Info-3.new.head.items ≡ head ++ info_bytes i = rw (
      c.put-in-Info-3.ensures.items,
      c.put-in-Info-2.ensures.items,
      c.put-in-Info.ensures.items,
      c.to_be_bytes.ensures,
      c.to_be_bytes-in-Info.ensures,
      c.to_be_bytes-in-Info-2.ensures,
      c.length.ensures.value,
      c.symbol.ensures.value,
      c.block.ensures.value,
    ) (regroup head
    (in_bytes 6 i.transfer_length) (in_bytes 2 i.symbol_length) (in_bytes 4 i.max_block_length)) in
    search rules
