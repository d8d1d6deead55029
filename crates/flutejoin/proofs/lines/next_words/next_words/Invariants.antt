-- next_words: so much was read of the line.
use Rattle.std.proofs.Common.{◌≡◌, ◌-◌, ◌≤◌, length}
use Rattle.std.specs.Io.KnownBytes.{Consumes}
use Rattle.flutejoin.specs.ListedLines.{IsOneLine}
use Rattle.flutejoin.proofs.lines.next_words.next_words.Given as goal

abbrev pub invariant-loop-text : goal.invariant-loop-text
invariant-loop-text g l = record {
  so_far : Consumes (g.R.Source.unread l.fn.source) (g.R.Source.unread l.source) l.text;
  one_line : IsOneLine l.text;
  few : length l.text ≤ 512;
  failures : g.R.Source.failures l.source ≡ g.R.Source.failures l.fn.source;
}

abbrev pub decreases-loop-text : goal.decreases-loop-text
decreases-loop-text g l = 512 - length l.text
