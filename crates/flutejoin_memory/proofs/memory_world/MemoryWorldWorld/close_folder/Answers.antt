-- MemoryWorld::close_folder: what the name leads to then.
use Rattle.std.proofs.Common.{ap, map, Some, ◌++◌}
use Rattle.flute_memory.specs.NewMemory.{memory_places}
use Rattle.flutejoin_memory.specs.MemoryFiles.{Changed, files_of, names_of}
use Rattle.flutejoin_memory.specs.NamedFiles.{with_bytes}
use Rattle.flutejoin_memory.proofs.Replacing.{is_folder_at}
use Rattle.flutejoin_memory.proofs.memory_world.MemoryWorldWorld.close_folder.Goals as goal

pub returns : goal.returns
returns c = record {
  closed = is_folder_at c.args.out.now (memory_places c.args.folder)
      c.args.self.now.changes.told.changed c.close_folder.new.self.told.changed
      c.close_folder.ensures;
  same_files = ap (λ (s : Changed). Some (files_of (names_of s.closed
      ++ map with_bytes c.args.self.now.given.now))) c.close_folder.ensures;
  same_closed = ap (λ (s : Changed). Some s.closed) c.close_folder.ensures;
}
