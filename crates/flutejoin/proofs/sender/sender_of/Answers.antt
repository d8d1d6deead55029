use Rattle.std.proofs.Common.{sym, ◌∙◌}
use Rattle.flutejoin.proofs.lines_lemmas.Senders.{no_sender}
use Rattle.flutejoin.proofs.sender.sender_of.Goals as goal

pub returns-in-Err : goal.returns-in-Err
returns-in-Err c = no_sender c.args.text.now c.in_default.field-0 c.in-Err.field-0
    (sym c.from_hex.ensures ∙ c.in_default.is) (sym c.from_hex-2.ensures ∙ c.in-Err.is)
