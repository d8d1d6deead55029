-- pieces_of: the words before a symbol's bytes, with a symbol and without.
use Rattle.std.proofs.Common.{arith}
use Rattle.std.proofs.lemmas.Grind.{common_steps}
use Rattle.std.proofs.Common.{rules}
use Rattle.std.proofs.Common.{◌≡◌, ◌++◌, Some, None, refl, sym, ap, ◌∙◌}
use Rattle.std.specs.Option.{option_map}
use Rattle.flutejoin.specs.Lines.{info_or_none}
use Rattle.flutejoin.specs.Pieces.{packet_head}
use Rattle.flutejoin.proofs.packet.pieces_of.Goals as goal
use Rattle.flutejoin.proofs.packet.pieces_of.Goals.{in-Some, in-None}

pub returns-in-Some-symbol-clause-head : goal.returns-in-Some-symbol-clause-head
unfolding packet_head
returns-in-Some-symbol-clause-head c = search rules

pub returns-in-None-symbol-clause-head : goal.returns-in-None-symbol-clause-head
unfolding packet_head
returns-in-None-symbol-clause-head c =
    let is : c.args.packet.now.symbol ≡ None = sym c.symbol-2.ensures ∙ ap
    (option_map (λ s. (s.0, s.1.now))) c.in-None-symbol.is in
    let told : c.match-info.text ≡ c.push-3.new.self ++ info_or_none c.args.packet.now.info = elim
    c.match-info.branch [
      | in-Some w ↦ rw (
        sym c.info.ensures,
        w.in-Some.is,
        w.text-is,
        w.push_numbers.ensures.text,
        w.length.ensures.value,
        w.symbol.ensures.value,
        w.block.ensures.value,
      ) refl
      | in-None w ↦ rw (sym c.info.ensures, w.in-None.is, w.text-is, w.push-in-None.ensures.text)
          refl
    ] in rw (
      is,
      c.push-in-None-symbol.ensures.text,
      c.push-4.ensures.text,
      told,
      c.push-3.ensures.text,
      c.push_object.ensures.text,
      c.push-2.ensures.text,
      c.push_number.ensures.text,
      c.push.ensures.text,
      c.new-text.ensures,
      c.tsi.ensures.value,
      c.key-key.ensures,
    ) refl
