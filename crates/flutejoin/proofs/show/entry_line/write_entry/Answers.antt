-- write_entry: the line of each style (specs/Show).
use Rattle.flute_parts.specs.Addresses.{fact_of}
use Rattle.flutejoin.specs.Json.{json_fact_line}
use Rattle.flutejoin.specs.SymbolSums.{summed_line}
use Rattle.flutejoin.proofs.lines_lemmas.WrittenPieces.{fact_written}
use Rattle.flutejoin.proofs.show.entry_line.write_entry.Goals as goal

pub returns-in-Plain-clause-line : goal.returns-in-Plain-clause-line
unfolding summed_line
returns-in-Plain-clause-line g c = rw (c.in-Plain.is, c.if-style.true)
    (rw c.summed_text.ensures.words at c.write_words.ensures.line)

pub returns-in-Plain-2-clause-line : goal.returns-in-Plain-2-clause-line
returns-in-Plain-2-clause-line g c = rw (c.in-Plain.is, c.if-style.false)
    (fact_written (fact_of c.args.fact.now) (g.W.Sink.written c.args.sink.now)
    (g.W.Sink.written c.write_hex_line.new.sink) c.write_hex_line.result c.head_of.ensures.head
    c.bytes_of.ensures c.write_hex_line.ensures.line)

pub returns-in-Json-clause-line : goal.returns-in-Json-clause-line
unfolding json_fact_line
returns-in-Json-clause-line g c = rw c.in-Json.is
    (rw c.json_text.ensures.members at c.write_words-in-Json.ensures.line)
