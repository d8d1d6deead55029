-- sessions: what holds in its loop.
use Rattle.std.proofs.Common.{◌^◌, map, take}
use Rattle.flute_streams.specs.Sessions.{listed_tsis}
use Rattle.flutejoin_line.specs.Options.{AreNumbers}
use Rattle.flutejoin_line.proofs.numbers.sessions.Given as goal

abbrev pub invariant-loop-text : goal.invariant-loop-text
invariant-loop-text l =
    AreNumbers (2 ^ 48) (map (λ text. text.now) (take l.text-index l.texts))
    (listed_tsis l.sessions)
