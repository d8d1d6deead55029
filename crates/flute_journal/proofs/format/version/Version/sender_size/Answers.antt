use Rattle.std.proofs.Common.{rules}
use Rattle.flute_journal.specs.Format.{sender_size}
use Rattle.flute_journal.proofs.format.version.Version.sender_size.Goals as goal

pub returns-in-One-clause-size : goal.returns-in-One-clause-size
unfolding sender_size
returns-in-One-clause-size c = search rules

pub returns-in-Two-clause-size : goal.returns-in-Two-clause-size
unfolding sender_size
returns-in-Two-clause-size c = search rules
