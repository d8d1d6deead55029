use Rattle.flute_memory.proofs.Logs.{unused-pushed}
use Rattle.flute_memory.proofs.memory_calls.MemoryCalls.note.Goals as goal

pub invariant_of-self : goal.invariant_of-self
invariant_of-self c = record {
  unused = unused-pushed _ c.args.self.now.changes.items _ c.args.change c.push.ensures.items
      c.requires c.args.self.now.unused;
}
