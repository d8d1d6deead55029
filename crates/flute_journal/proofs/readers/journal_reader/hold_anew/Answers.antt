-- hold_anew: the next entry, the end or a fault is read behind the entry that was let go of.
use Rattle.flute_journal.proofs.Common.{Err, FailsIf, Gives, Ok, ap, refl, subst, sym, ◌∙◌}
use Rattle.flute_journal.proofs.Common.{err_from_is_err_and, is_open, journal_framing}
use Rattle.flute_journal.proofs.readers_lemmas.Holding.{holds_anew}
use Rattle.flute_journal.proofs.readers.journal_reader.hold_anew.Goals as goal

pub returns-in_err-fact : goal.returns-in_err-fact
returns-in_err-fact g c =
    let e = err_from_is_err_and c.from_residual.result c.from_residual.ensures.1 in
    rw (e.1 ∙ ap Err e.2, c.let_go-spare.ensures.nothing) (holds_anew (record {
      own = refl;
      between = c.let_go-spare.new.source;
      taken = c.let_go-spare.ensures.takes;
      none_failed = c.let_go-spare.ensures.failures;
      gives = c.in_err-fact.ensures.gives;
      failed = c.in_err-fact.ensures.failures;
      none = refl;
    }))

pub returns-in-Some : goal.returns-in-Some
returns-in-Some g c =
    let is = c.in-Some.is in
    let read = rw is at c.in_ok-fact.ensures in
    let fact = sym (c.of.ensures.fact (g.R.Source.buffered c.read_at.new.source)) in
    holds_anew (record {
      own = c.of.ensures.own;
      between = c.let_go-spare.new.source;
      taken = c.let_go-spare.ensures.takes;
      none_failed = c.let_go-spare.ensures.failures;
      gives = subst (λ o. Gives journal_framing c.args.max_entries c.args.state.now
          c.read_at.new.state (g.R.Source.unread c.let_go-spare.new.source)
          (g.R.Source.unread c.read_at.new.source) (Ok o)) fact read.gives;
      failed = subst (λ o. FailsIf (is_open c.args.state.now)
          (g.R.Source.failures c.let_go-spare.new.source) (g.R.Source.failures c.read_at.new.source)
          (Ok o)) fact read.failures;
      none = tt;
    })

pub returns-in_default : goal.returns-in_default
returns-in_default g c =
    let read = rw c.in_default.is at c.in_ok-fact.ensures in
    rw c.let_go-spare.ensures.nothing (holds_anew (record {
      own = refl;
      between = c.let_go-spare.new.source;
      taken = c.let_go-spare.ensures.takes;
      none_failed = c.let_go-spare.ensures.failures;
      gives = read.gives;
      failed = read.failures;
      none = tt;
    }))
