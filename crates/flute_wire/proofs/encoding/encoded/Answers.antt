-- encoded: the parts that are appended one after another are the spelling.
use Rattle.std.proofs.Common.{rules, ◌≡◌, ◌++◌}
use Rattle.flute_parts.specs.ObjectName.{instance_of}
use Rattle.flute_wire.specs.Encoding.{IsEncodable, HasFittingInformation}
use Rattle.flute_wire.specs.Outgoing.{said}
use Rattle.flute_wire.specs.Writing.{IsWritten, spelling, fdt_bytes, fti_bytes}
use Rattle.flute_wire.proofs.Written.{written, instance_has_toi, facts_told}
use Rattle.flute_wire.proofs.encoding.encoded.Goals as goal
use Rattle.flute_wire.proofs.encoding.encoded.Goals.{in-Some-instance+in_ok-extend_from_slice-2}
use Rattle.flute_wire.proofs.encoding.encoded.Goals.{in_default}
use Rattle.flute_wire.proofs.encoding.encoded.Goals.{in-Some-info+in_ok-extend_from_slice-3}
use Rattle.flute_wire.proofs.encoding.encoded.Goals.{in_default-info}

pub returns : goal.returns
returns c =
    let o = c.args.outgoing.now in
    let fdt : c.match-instance.bytes.items ≡ c.extend_from_slice.new.self.items ++ fdt_bytes
    (instance_of o.key.object) = elim c.match-instance.branch [
      | in-Some-instance+in_ok-extend_from_slice-2 w ↦ search rules
      | in_default w ↦ search rules
    ] in
    let fti : c.match-outgoing-2.bytes.items ≡ c.match-instance.bytes.items ++ fti_bytes o.info =
    elim c.match-outgoing-2.branch [
      | in-Some-info+in_ok-extend_from_slice-3 w ↦ search rules
      | in_default-info w ↦ search rules
    ] in
    let info : HasFittingInformation o.info = elim c.match-outgoing-2.branch [
      | in-Some-info+in_ok-extend_from_slice-3 w ↦ search rules
      | in_default-info w ↦ search rules
    ] in
    let d = c.put_symbol.new.out.items in
    let is : d ≡ spelling (said o) = search rules in
    let fits : IsEncodable (said o) = search rules in
    let w : IsWritten d (said o) = written d (said o) is fits (instance_has_toi o.key.object)
    c.requires.sound in record {
      sound = c.requires.sound;
      written = w;
      facts = facts_told d o.key o.info (said o).symbol w;
    }
