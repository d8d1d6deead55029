-- ExtractWork::extract: what extract_to wrote, and why it failed, within the limits.
use Rattle.flutejoin_commands.specs.Works.{most_of}
use Rattle.flutejoin_line.specs.declared.limit.Limit.TheVariants.{AnySize, Shelf}
use Rattle.flutejoin_commands.proofs.ObjectBytes.{Extraction, object_written, object_fails}
use Rattle.flutejoin_commands.proofs.extracting.ExtractWork.extract.Given.{Over}
use Rattle.flutejoin_commands.proofs.extracting.ExtractWork.extract.Goals as goal

abbrev any_size : (g : Over) (c : goal.After-extract_to g) → Extraction g.row.W.Denot
any_size g c = record {
  key = c.args.self.now.key;
  input = g.R.Source.unread c.args.self.now.source;
  left = g.R.Source.unread c.extract_to.new.source;
  old = c.args.sink.now;
  new = c.extract_to.new.sink;
}

abbrev of_a_store : (g : Over) (c : goal.After-extract_to-in-Shelf g)
    → Extraction g.row.W.Denot
of_a_store g c = record {
  key = c.args.self.now.key;
  input = g.R.Source.unread c.args.self.now.source;
  left = g.R.Source.unread c.extract_to-in-Shelf.new.source;
  old = c.args.sink.now;
  new = c.extract_to-in-Shelf.new.sink;
}

pub returns-in-AnySize-clause-written : goal.returns-in-AnySize-clause-written
returns-in-AnySize-clause-written g c =
    rw c.in-AnySize.is
    (object_written g.W.Sink.written (most_of AnySize) (any_size g c) c.extract_to.result
    c.extract_to.ensures.as_others)

pub returns-in-AnySize-clause-failed : goal.returns-in-AnySize-clause-failed
returns-in-AnySize-clause-failed g c =
    rw c.in-AnySize.is
    (object_fails g.W.Sink.written (most_of AnySize) (any_size g c) c.extract_to.result
    c.extract_to.ensures.as_others)

pub returns-in-Shelf-clause-written : goal.returns-in-Shelf-clause-written
returns-in-Shelf-clause-written g c =
    rw c.in-Shelf.is
    (object_written g.W.Sink.written (most_of Shelf) (of_a_store g c)
    c.extract_to-in-Shelf.result c.extract_to-in-Shelf.ensures.as_others)

pub returns-in-Shelf-clause-failed : goal.returns-in-Shelf-clause-failed
returns-in-Shelf-clause-failed g c =
    rw c.in-Shelf.is
    (object_fails g.W.Sink.written (most_of Shelf) (of_a_store g c)
    c.extract_to-in-Shelf.result c.extract_to-in-Shelf.ensures.as_others)
