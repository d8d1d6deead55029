use Rattle.std.proofs.Common.{refl}
use Rattle.flutejoin.proofs.Forgotten.{forgets, forgets_part}
use Rattle.flutejoin.proofs.forget.forget_to.Goals as goal

pub returns-in-Ok-clause-forgot : goal.returns-in-Ok-clause-forgot
returns-in-Ok-clause-forgot g c = rw (← c.restart.ensures.left) (forgets g.R.Source.unread
    g.R.Source.buffered g.R.Source.failures c.restart.ensures.limit refl c.in-Ok.ensures.written)

pub returns-in-Err-Input-clause-short : goal.returns-in-Err-Input-clause-short
returns-in-Err-Input-clause-short g c = rw (← c.restart.ensures.left) (forgets_part
    g.R.Source.unread g.R.Source.buffered g.R.Source.failures c.restart.ensures.limit
    c.in-Err-Input.ensures.short)

pub returns-in-Err-Write-clause-short : goal.returns-in-Err-Write-clause-short
returns-in-Err-Write-clause-short g c = rw (← c.restart.ensures.left) (forgets_part
    g.R.Source.unread g.R.Source.buffered g.R.Source.failures c.restart.ensures.limit
    c.in-Err-Write.ensures.short)
