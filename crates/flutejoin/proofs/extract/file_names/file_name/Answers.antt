use Rattle.std.proofs.Common.{◌++◌, append_assoc, ap, codes, decimal, sym, ◌∙◌, rules}
use Rattle.std.specs.Int.{bytes_high_first}
use Rattle.hex.specs.Hex.{encode_lower}
use Rattle.flutejoin.proofs.extract_lemmas.FileNames.{name_pieces, instance_name}
use Rattle.flutejoin.proofs.extract.file_names.file_name.Goals as goal

pub returns-in-Some-clause-name : goal.returns-in-Some-clause-name
returns-in-Some-clause-name c =
    let digits = rw c.unwrap.ensures at c.encode_to_slice.ensures.written in
    name_pieces _ (digits ∙ ap encode_lower (c.as_slice.ensures ∙ c.to_be_bytes.ensures
    ∙ ap (bytes_high_first 16) (c.number-address.ensures.value ∙ c.sender.ensures)))
    c.tsi.ensures.value (rw c.new-text.ensures at c.push_bytes.ensures.text) c.push.ensures.text
    c.push_number.ensures.text c.push-2.ensures.text (c.push_number-in-Some.ensures.text ∙ ap
    (λ x. x ++ decimal c.in-Some.instance) c.push-in-Some.ensures.text ∙ append_assoc
    c.push-2.new.self (codes "fdt") (decimal c.in-Some.instance) ∙ ap (λ x. c.push-2.new.self ++ x)
    (sym (instance_name _ (sym c.instance.ensures.value ∙ c.in-Some.is))))

pub returns-in-None-clause-name : goal.returns-in-None-clause-name
returns-in-None-clause-name c =
    let digits = rw c.unwrap.ensures at c.encode_to_slice.ensures.written in
    name_pieces _ (digits ∙ ap encode_lower (c.as_slice.ensures ∙ c.to_be_bytes.ensures
    ∙ ap (bytes_high_first 16) (c.number-address.ensures.value ∙ c.sender.ensures)))
    c.tsi.ensures.value (rw c.new-text.ensures at c.push_bytes.ensures.text) c.push.ensures.text
    c.push_number.ensures.text c.push-2.ensures.text (search rules)
