use Rattle.flutejoin.proofs.lines_lemmas.WrittenPieces.{packet_written}
use Rattle.flutejoin.proofs.packet.write_packet.Goals as goal

pub returns-in-Plain-clause-lines : goal.returns-in-Plain-clause-lines
returns-in-Plain-clause-lines g c = rw c.in-Plain.is (packet_written c.args.packet.now
    (g.W.Sink.written c.args.sink.now) (g.W.Sink.written c.write_hex_line.new.sink)
    c.write_hex_line.result c.pieces_of-head.ensures.head c.pieces_of-head.ensures.payload
    c.write_hex_line.ensures.line)
