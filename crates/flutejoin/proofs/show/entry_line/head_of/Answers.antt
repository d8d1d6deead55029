-- head_of: the words before a symbol's bytes, for each kind of fact (specs/Lines).
use Rattle.std.proofs.Common.{arith}
use Rattle.std.proofs.lemmas.Grind.{common_steps}
use Rattle.std.proofs.Common.{rules}
use Rattle.std.proofs.Common.{refl}
use Rattle.flutejoin.specs.Pieces.{fact_head}
use Rattle.flutejoin.proofs.show.entry_line.head_of.Goals as goal

pub returns-in-Info-clause-head : goal.returns-in-Info-clause-head
unfolding fact_head
returns-in-Info-clause-head c = search rules

pub returns-in-InfoConflict-clause-head : goal.returns-in-InfoConflict-clause-head
unfolding fact_head
returns-in-InfoConflict-clause-head c = rw (
  c.in-InfoConflict.is,
  c.push-in-InfoConflict.ensures.text,
  c.push_key-in-InfoConflict.ensures.text,
  c.new-text.ensures,
) refl

pub returns-in-Symbol-clause-head : goal.returns-in-Symbol-clause-head
unfolding fact_head
returns-in-Symbol-clause-head c = search rules

pub returns-in-SymbolConflict-clause-head : goal.returns-in-SymbolConflict-clause-head
unfolding fact_head
returns-in-SymbolConflict-clause-head c = search rules
