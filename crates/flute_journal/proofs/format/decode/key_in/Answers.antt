-- key_in: its sender is that of the version, and its name that of the other bytes.
use Rattle.std.proofs.Common.{rules}
use Rattle.flute_journal.proofs.Common.{big_endian, big_from-whole, sym, ◌≡◌, ◌∙◌}
use Rattle.flute_journal.proofs.format_lemmas.Decoded.{key_found, sender_long, sender_none}
use Rattle.flute_journal.proofs.format_lemmas.Decoded.{split_in_key}
use Rattle.flute_journal.proofs.format.decode.key_in.Goals.{in-One, in-Two}
use Rattle.flute_journal.proofs.format.decode.key_in.Goals as goal

pub read_u128-requires : goal.read_u128-requires
read_u128-requires c = search (rules, sender_long)

pub returns : goal.returns
returns c =
    let v = c.args.version in
    let field = c.split_at.result.0.now in
    let size = c.split_at.ensures.front_len ∙ c.sender_size.ensures.size in
    let is : c.match-version.sender ≡ big_endian field = elim c.match-version.branch [
      | in-One w ↦ w.sender-is ∙ w.new-sender.ensures ∙ sender_none v field w.in-One.is size
      | in-Two w ↦ w.sender-is ∙ w.new-sender-in-Two.ensures ∙ w.read_u128.ensures ∙ big_from-whole
          16 field (sym (sender_long v field w.in-Two.is size))
    ] in key_found c.named_in.result (split_in_key c.args.bytes.now (λ i. (c.type_inv.bytes i).fits)
    c.requires c.sender_size.ensures.size c.split_at.ensures.front c.split_at.ensures.back is)
    c.named_in.ensures
