-- packet_to: the lines that were written, or a part of them, are those of the datagram's packet.
use Rattle.std.proofs.Common.{rules}
use Rattle.flutejoin.proofs.packet.packet_to.Goals as goal

pub returns-in-Ok-write_packet-clause-printed : goal.returns-in-Ok-write_packet-clause-printed
returns-in-Ok-write_packet-clause-printed g c = record {
  datagram = c.in-Ok.bytes.items;
  content = c.in-Ok-read.packet;
  hex = search rules;
  spelled = search rules;
  written = rw c.in-Ok-write_packet.is at c.write_packet.ensures.lines;
}

pub returns-clause-failed : goal.returns-clause-failed
returns-clause-failed g c = record {
  datagram = c.in-Ok.bytes.items;
  content = c.in-Ok-read.packet;
  hex = search rules;
  spelled = search rules;
  written = rw c.in-Err-write_packet.is at c.write_packet.ensures.lines;
}
