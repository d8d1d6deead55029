-- push_reasons: the lines of the reasons so far.
use Rattle.std.proofs.Common.{◌≡◌, ◌≤◌, ◌+◌, ◌*◌, ◌++◌, length, take}
use Rattle.std.specs.List.{flat_map}
use Rattle.flute_wire.specs.RefusalWords.{refusals}
use Rattle.flutejoin.specs.Refused.{reason_line}
use Rattle.flutejoin.proofs.lines.report.Report.push_reasons.Given as goal

abbrev pub invariant-loop-why : goal.invariant-loop-why
invariant-loop-why l = record {
  items : l.why-items ≡ refusals;
  text : l.self ≡ l.fn.self ++ flat_map (reason_line l.reasons) (take l.why-index refusals);
  len : length l.self ≤ length l.fn.self + 80 * l.why-index;
}
