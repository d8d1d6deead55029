-- keys_of: the objects that the opened list names, or why it names none.
use Rattle.flutejoin_commands.proofs.ListedNames.{listed, not_listed}
use Rattle.flutejoin_commands.proofs.opening_listed.keys_of.Goals as goal

pub returns-clause-listed : goal.returns-clause-listed
returns-clause-listed g c =
    listed (g.I.Inputs.files c.args.world.now) c.args.list.now (g.I.Input.Source.unread c.in_ok-source.source)
    c.in_ok-source.ensures.opened c.read_keys.result c.read_keys.ensures.named

pub returns-clause-failed : goal.returns-clause-failed
returns-clause-failed g c =
    not_listed (g.I.Inputs.files c.args.world.now) c.args.list.now
    (g.I.Input.Source.unread c.in_ok-source.source)
    c.in_ok-source.ensures.opened c.read_keys.result c.read_keys.ensures.failed
    c.read_keys.ensures.kinds
