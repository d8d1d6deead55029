-- json_count_to: the line that was written, or the part of it after a failed write.
use Rattle.std.proofs.Common.{◌≡◌, ◌++◌, List, [], ℕ, append_assoc, codes, decimal, refl, subst}
use Rattle.std.specs.Io.KnownBytes.{Appends}
use Rattle.flute_parts.specs.Devices.{AppendsPart}
use Rattle.flutejoin.specs.Json.{braced, json_count_line}
use Rattle.flutejoin.specs.Lines.{line}
use Rattle.flutejoin.proofs.lines.report_lines.json_count_to.Goals as goal

-- the words as they are put together
pieces : (word number : List ℕ)
    → (((([] ++ codes "{\"") ++ word) ++ codes "\":") ++ number) ++ codes "}"
    ≡ braced (codes "\"" ++ word ++ codes "\":" ++ number)
pieces word number = simp append_assoc refl

pub returns-in-Ok-clause-printed : goal.returns-in-Ok-clause-printed
unfolding json_count_line
returns-in-Ok-clause-printed g c =
    let is : c.push-4.new.self
    ≡ braced (codes "\"" ++ c.args.word.now ++ codes "\":" ++ decimal c.args.count) = rw (
      c.push-4.ensures.text,
      c.push_number.ensures.text,
      c.push-3.ensures.text,
      c.push-2.ensures.text,
      c.push.ensures.text,
      c.new-text.ensures,
    ) (pieces c.args.word.now (decimal c.args.count)) in
    subst (λ (x : List ℕ). Appends (g.W.Sink.written c.args.sink.now)
    (g.W.Sink.written c.write_words.new.sink) (line x)) is c.in-Ok.ensures.line

pub returns-in-Err-clause-failed : goal.returns-in-Err-clause-failed
unfolding json_count_line
returns-in-Err-clause-failed g c =
    let is : c.push-4.new.self
    ≡ braced (codes "\"" ++ c.args.word.now ++ codes "\":" ++ decimal c.args.count) = rw (
      c.push-4.ensures.text,
      c.push_number.ensures.text,
      c.push-3.ensures.text,
      c.push-2.ensures.text,
      c.push.ensures.text,
      c.new-text.ensures,
    ) (pieces c.args.word.now (decimal c.args.count)) in
    subst (λ (x : List ℕ). AppendsPart (g.W.Sink.written c.args.sink.now)
    (g.W.Sink.written c.write_words.new.sink) (line x)) is c.in-Err.ensures.line
