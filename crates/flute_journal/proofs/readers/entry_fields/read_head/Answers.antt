use Rattle.flute_journal.proofs.Common.{HeadIn, ReadsUpTo, body_fault, head_bytes, head_size, rules}
use Rattle.flute_journal.proofs.framing_lemmas.ReadsUpTo.{parsed_reads}
use Rattle.flute_journal.proofs.readers_lemmas.Bodies.{fixed_least}
use Rattle.flute_journal.proofs.readers.entry_fields.read_head.Goals as goal

pub returns-clause-reads : goal.returns-clause-reads
returns-clause-reads g c =
    let u = g.R.Source.unread c.args.source.now in
    let v = g.R.Source.unread c.read_up_to-read.new.source in
    let k = c.args.kind in
    let front = c.read_up_to-read.result in
    let n = head_size c.args.version k in
    let filled : ReadsUpTo u v n front.failed front.bytes.now = search rules in
    rw c.or_failed.ensures (parsed_reads (head_bytes c.args.version)
    (HeadIn c.args.version c.args.last k) (body_fault c.args.version c.args.last k) front.failed
    c.parse.result filled (fixed_least c.args.version c.args.last k) c.parse.ensures)
