-- Overwrites::check: what is neither of the kinds is none of them.
use Rattle.std.proofs.Common.{subst, sym}
use Rattle.flute_journal.specs.declared.kind.Kind.TheVariants.{Journal, Datagrams}
use Rattle.flutejoin.specs.OutputGuard.{IsOverwritten}
use Rattle.flutejoin.proofs.output_guard.Overwrites.check.Goals as goal

pub returns-in-None-clause-datagrams : goal.returns-in-None-clause-datagrams
returns-in-None-clause-datagrams c = λ _ begins. absurd (c.in-None.ensures Datagrams begins)

pub returns-in-None-kind_of-clause-datagrams : goal.returns-in-None-kind_of-clause-datagrams
returns-in-None-kind_of-clause-datagrams c =
    λ _ begins. absurd (c.in-None-kind_of.ensures Datagrams begins)

pub returns-in-None-kind_of-clause-journal : goal.returns-in-None-kind_of-clause-journal
returns-in-None-kind_of-clause-journal c =
    λ _ begins. absurd (c.in-None-kind_of.ensures Journal begins)

pub returns-in-None-2-clause-datagrams : goal.returns-in-None-2-clause-datagrams
returns-in-None-2-clause-datagrams c = λ _ begins. absurd (c.in-None-2.ensures Datagrams begins)

pub returns-in-None-2-clause-journal : goal.returns-in-None-2-clause-journal
returns-in-None-2-clause-journal c = λ _ begins. absurd (c.in-None-2.ensures Journal begins)

pub returns-in-None-clause-spared : goal.returns-in-None-clause-spared
returns-in-None-clause-spared c = subst (λ o. IsOverwritten o c.args.first.now)
    (sym c.in-Journals.is) (c.in-None.ensures Datagrams)
