-- JoinWork::write: what was joined of the objects, or why not.
use Rattle.std.proofs.Common.{inl, rules}
use Rattle.std.proofs.lemmas.Result.{err_from_is_err_and}
use Rattle.std.specs.Option.{option_map}
use Rattle.flutejoin.specs.declared.command_fault.CommandFault.TheVariants.{Full}
use Rattle.flutejoin_commands.specs.Works.{most_of}
use Rattle.flutejoin_commands.proofs.WithoutLists.{fails_by}
use Rattle.flutejoin_commands.proofs.joining.JoinWorkWork.write.Goals as goal

pub returns-in_err-counts-clause-failed : goal.returns-in_err-counts-clause-failed
returns-in_err-counts-clause-failed g c =
    let w = c.args.self.now in
    let e = err_from_is_err_and c.from_residual-in_err-counts.result
    c.from_residual-in_err-counts.ensures.1 in
    rw (e.1, e.2) (fails_by g.R.Source.unread (g.A.Asides.tells w.asides) (most_of w.limit)
    w.sender w.scope c.in_ok-objects.objects w.inputs.items
    (option_map g.R.Source.unread w.list) c.in_ok-objects.ensures.taken c.in_err-counts.field-0.0 (
      (λ told contents are. inl (c.in_err-counts.ensures.failed told contents are)),
      c.in_err-counts.ensures.names,
    ))

pub returns-then-counts-gt-MAX_ENTRIES-clause-failed : goal.returns-then-counts-gt-MAX_ENTRIES-clause-failed
returns-then-counts-gt-MAX_ENTRIES-clause-failed g c =
    let w = c.args.self.now in
    fails_by g.R.Source.unread (g.A.Asides.tells w.asides) (most_of w.limit)
    w.sender w.scope c.in_ok-objects.objects w.inputs.items
    (option_map g.R.Source.unread w.list) c.in_ok-objects.ensures.taken Full (search rules)
