-- names_file: the sender and the name of a key are spelled by its bytes.
use Rattle.std.proofs.Common.{rules}
use Rattle.flute_journal.proofs.Common.{AllByRecursion, IsByte, Two, arith, get_or, ap, big_endian}
use Rattle.flute_journal.proofs.Common.{big_from-whole, drop, length, length-drop, refl, subst, sym, take_all, ◌≡◌, ◌<◌}
use Rattle.flute_journal.proofs.Common.{◌-◌, ◌∙◌}
use Rattle.std.proofs.lemmas.Bool.{eqb-true}
use Rattle.flute_journal.proofs.Numbers.{octets-drop}
use Rattle.flute_journal.proofs.format_lemmas.Decoded.{LieInKey, sender_long, split_in_key}
use Rattle.flute_journal.proofs.format_lemmas.SameFile.{file_named, key_named}
use Rattle.flute_journal.proofs.format.decode.names_file.Goals as goal

pub read_u128-requires : goal.read_u128-requires
read_u128-requires c = search (rules, sender_long)

pub returns-clause-spelled : goal.returns-clause-spelled
returns-clause-spelled c = λ h. let key = c.args.key.now in
    let bytes = c.args.bytes.now in
    let sender = c.split_at.result.0.now in
    let name = c.split_at.result.1.now in
    let size = c.split_at.ensures.front_len ∙ c.sender_size.ensures.size in
    let is = c.split_at.ensures.back in
    let split : LieInKey Two bytes sender name c.read_u128.result = split_in_key bytes
    (λ i. (c.type_inv.bytes i).fits) c.requires c.sender_size.ensures.size c.split_at.ensures.front
    is (c.read_u128.ensures ∙ big_from-whole 16 sender (sym (sender_long Two sender refl size))) in
    let same : c.read_u128.result ≡ c.number-own.result = eqb-true c.read_u128.result
    c.number-own.result h in
    let own : c.number-own.result ≡ key.session.sender = search rules in
    let long : length name ≡ 21 = omega (
      arith,
      ap length is,
      length-drop c.sender_size.result
          bytes,
      c.requires,
      c.sender_size.ensures.size,
    ) in
    let all : AllByRecursion IsByte name = subst (AllByRecursion IsByte) (sym is)
    (octets-drop c.sender_size.result bytes split.octets) in
    let toi : c.number_of_14.result ≡ c.toi-toi.result = search rules in
    let some : 0 < c.toi-toi.result = search rules in
    let one : get_or name 6 0 ≡ 1 = search rules in
    let tsi : c.number.result ≡ key.session.tsi = search rules in
    let number : c.number_of_14.result ≡ big_endian (drop 7 name) = c.number_of_14.ensures.value ∙
    ap big_endian (take_all (length name - 7) (drop 7 name) (omega (arith, length-drop 7 name))) in
    key_named key split (same ∙ own) (file_named key name long all one
    (sym tsi ∙ c.number.ensures.value) (sym (toi ∙ c.toi-toi.ensures.value) ∙ number)
    (omega (arith, c.toi-toi.ensures.value, some)))
