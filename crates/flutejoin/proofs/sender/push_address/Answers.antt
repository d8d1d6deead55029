use Rattle.std.proofs.Common.{ap, ◌∙◌, ◌++◌}
use Rattle.std.specs.Int.{bytes_high_first}
use Rattle.hex.specs.Hex.{encode_lower}
use Rattle.flutejoin.proofs.sender.push_address.Goals as goal

pub returns-clause-text : goal.returns-clause-text
returns-clause-text c =
    let written = rw c.unwrap.ensures at c.encode_to_slice.ensures.written in
    c.push_bytes.ensures.text ∙ ap (λ x. c.args.text.now ++ x)
    (written ∙ ap encode_lower (c.as_slice.ensures ∙ c.to_be_bytes-address.ensures
    ∙ ap (bytes_high_first 16) c.number.ensures.value))
