-- list_gaps: the lines within the limits that were asked for.
use Rattle.flutejoin_commands.proofs.printing.list_gaps.Goals as goal

pub returns-in-AnySize-clause-printed : goal.returns-in-AnySize-clause-printed
returns-in-AnySize-clause-printed g c = rw c.in-AnySize.is c.gaps_from.ensures.printed

pub returns-in-AnySize-clause-failed : goal.returns-in-AnySize-clause-failed
returns-in-AnySize-clause-failed g c = rw c.in-AnySize.is c.gaps_from.ensures.failed

pub returns-in-AnySize-clause-part : goal.returns-in-AnySize-clause-part
returns-in-AnySize-clause-part g c = rw c.in-AnySize.is c.gaps_from.ensures.part

pub returns-in-Shelf-clause-printed : goal.returns-in-Shelf-clause-printed
returns-in-Shelf-clause-printed g c =
    rw c.in-Shelf.is c.gaps_from-in-Shelf.ensures.printed

pub returns-in-Shelf-clause-part : goal.returns-in-Shelf-clause-part
returns-in-Shelf-clause-part g c =
    rw c.in-Shelf.is c.gaps_from-in-Shelf.ensures.part

pub returns-in-Shelf-clause-failed : goal.returns-in-Shelf-clause-failed
returns-in-Shelf-clause-failed g c =
    rw c.in-Shelf.is c.gaps_from-in-Shelf.ensures.failed
