-- put_key: the bytes it puts are those of the key (specs/Format).
use Rattle.flute_journal.proofs.Common.{◌≡◌, ℕ, ◌/◌, ◌%◌, ◌^◌, [], ◌∷◌}
use Rattle.flute_journal.proofs.Common.{◌++◌, List, ap, ◌∙◌, in_bytes, object_bytes}
use Rattle.flute_journal.proofs.Numbers.{in_halves}
use Rattle.flute_journal.proofs.format_lemmas.Written.{regroup_more, instance_bytes, file_bytes}
use Rattle.flute_journal.proofs.format.encode.put_key.Goals.{in-Some, in-None}
use Rattle.flute_journal.specs.Format.{sender_size}
use Rattle.flute_journal.proofs.format.encode.put_key.Goals as goal

pub returns-clause-items : goal.returns-clause-items
unfolding sender_size
returns-clause-items c =
    let k = c.args.key.now in
    let head = c.args.head.now.items in
    let tag = c.match-instance.tag.0 in
    let n = c.match-instance.tag.1 in
    let object : tag ∷ in_bytes 14 n ≡ object_bytes k.object = elim c.match-instance.branch [
      | in-Some w ↦ rw w.tag-is (instance_bytes k.object _ _ w.in-Some.ensures.value w.from.ensures)
      | in-None w ↦ rw w.tag-is (file_bytes k.object _ w.in-None.ensures.value w.toi.ensures.value)
    ] in
    let s = k.session.sender in
    rw (
      c.put-6.ensures.items,
      c.put-5.ensures.items,
      c.put-4.ensures.items,
      c.put-3.ensures.items,
      c.put-2.ensures.items,
      c.put.ensures.items,
      c.to_be_bytes.ensures,
      c.to_be_bytes-2.ensures,
      c.to_be_bytes-3.ensures,
      c.to_be_bytes-4.ensures,
      c.to_be_bytes-5.ensures,
      c.halves-high.ensures.high,
      c.halves-high.ensures.low,
      c.halves-upper.ensures.high,
      c.halves-upper.ensures.low,
      c.number.ensures.value,
      c.sender.ensures,
      c.tsi.ensures.value,
    )
    (regroup_more head (in_bytes 8 (s / 2 ^ 64)) (in_bytes 8 (s % 2 ^ 64))
    (in_bytes 6 k.session.tsi) (tag ∷ []) (in_bytes 6 (n / 2 ^ 64)) (in_bytes 8 (n % 2 ^ 64))
    ∙ (λ i. head ++ (in_halves 8 s i ++ (in_bytes 6 k.session.tsi ++ (tag ∷ in_halves 6 n i))))
    ∙ ap (λ (z : List ℕ). head ++ (in_bytes 16 s ++ (in_bytes 6 k.session.tsi ++ z))) object)
