-- json_head: the lines before that of the symbol, with information and without.
use Rattle.std.proofs.Common.{◌≡◌, ◌++◌, refl, sym}
use Rattle.flutejoin.specs.Json.{json_info_or_null}
use Rattle.flutejoin.specs.Pieces.{json_packet_head}
use Rattle.flutejoin.proofs.packet.json_head.Goals as goal
use Rattle.flutejoin.proofs.packet.json_head.Goals.{in-Some, in-None}

pub returns-clause-head : goal.returns-clause-head
unfolding json_packet_head
returns-clause-head c =
    let told : c.match-info.text ≡ c.push-3.new.self ++ json_info_or_null c.args.packet.now.info =
    elim c.match-info.branch [
      | in-Some w ↦ rw (
        sym c.info.ensures,
        w.in-Some.is,
        w.text-is,
        w.push_json_information.ensures.text,
        w.length.ensures.value,
        w.symbol.ensures.value,
        w.block.ensures.value,
      ) refl
      | in-None w ↦ rw (sym c.info.ensures, w.in-None.is, w.text-is, w.push-in-None.ensures.text)
          refl
    ] in rw (
      c.push-4.ensures.text,
      told,
      c.push-3.ensures.text,
      c.push_json_object.ensures.text,
      c.push-2.ensures.text,
      c.push_number.ensures.text,
      c.push.ensures.text,
      c.new-text.ensures,
      c.tsi.ensures.value,
      c.key-key.ensures,
    ) refl
