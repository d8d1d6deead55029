-- MemoryWorld::close: what is closed comes before all that the names had.
use Rattle.std.proofs.Common.{Some, ap, map}
use Rattle.flute_memory.specs.Memory.{memory_entries}
use Rattle.flutejoin_memory.specs.MemoryFiles.{Changed, folders_of}
use Rattle.flutejoin_memory.specs.NamedFiles.{with_bytes}
use Rattle.flutejoin_memory.proofs.Replacing.{closes}
use Rattle.flutejoin_memory.proofs.memory_world.MemoryWorldWorld.close.Goals as goal

pub returns : goal.returns
returns c = record {
  closed = closes c.args.out.now (memory_entries c.args.folder)
      c.args.self.now.changes.told.changed.closed c.close.new.self.told.changed.closed
      (map with_bytes c.args.self.now.given.now) (ap (λ (s : Changed). s.closed) c.close.ensures);
  noted = ap (λ (s : Changed). Some s.closed) c.close.ensures;
  same_folders = ap (λ (s : Changed). folders_of s.folders) c.close.ensures;
}
