-- write_json: the line of the symbol after the others, with a symbol and without.
use Rattle.std.proofs.Common.{◌≡◌, ◌++◌, ◌∙◌, ap, codes, length, refl, rules, sym, None, Some}
use Rattle.std.specs.Option.{option_map}
use Rattle.flutejoin.specs.Json.{json_symbol}
use Rattle.flutejoin.specs.Pieces.{json_packet_head}
use Rattle.flutejoin.proofs.lines_lemmas.JsonPieces.{none_written, symbol_written}
use Rattle.flutejoin.proofs.packet.write_json.Goals as goal

pub returns-in-Some-clause-lines : goal.returns-in-Some-clause-lines
returns-in-Some-clause-lines g c =
    let packet = c.args.packet.now in
    let is : packet.symbol ≡ Some (c.in-Some.id, c.in-Some.bytes.now) = search rules in
    let words : c.push-in-Some.new.self
    ≡ ((json_packet_head packet ++ codes "{")
    ++ json_symbol c.in-Some.id (length c.in-Some.bytes.now)) ++ codes ",\"bytes\":\"" = rw (
      c.push-in-Some.ensures.text,
      c.push_json_symbol.ensures.text,
      c.push.ensures.text,
      c.json_head-text.ensures.head,
    ) refl in
    symbol_written packet (g.W.Sink.written c.args.sink.now)
    (g.W.Sink.written c.write_hex_line.new.sink) c.in-Some.id c.in-Some.bytes.now c.write_hex_line.result is
    words c.write_hex_line.ensures.line

pub returns-in-None-clause-lines : goal.returns-in-None-clause-lines
returns-in-None-clause-lines g c =
    let packet = c.args.packet.now in
    let is : packet.symbol ≡ None = sym c.symbol.ensures
    ∙ ap (option_map (λ s. (s.0, s.1.now))) c.in-None.is in
    let words : c.push-in-None.new.self
    ≡ (json_packet_head packet ++ codes "{") ++ codes "\"symbol\":null}" = rw (
      c.push-in-None.ensures.text,
      c.push.ensures.text,
      c.json_head-text.ensures.head,
    ) refl in
    none_written packet (g.W.Sink.written c.args.sink.now)
    (g.W.Sink.written c.write_words.new.sink) c.write_words.result is words
    c.write_words.ensures.line
