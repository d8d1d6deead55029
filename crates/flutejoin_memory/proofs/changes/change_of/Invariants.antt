-- change_of: the changes before this one have another name.
use Rattle.std.proofs.Common.{◌≡◌, ◌++◌, List, map, drop}
use Rattle.flutejoin_memory.specs.NamedFiles.{changed}
use Rattle.flutejoin_memory.specs.MemoryFiles.{NamedFile, files_of}
use Rattle.flutejoin_memory.proofs.changes.change_of.Given as goal

abbrev pub invariant-loop-change : goal.invariant-loop-change
invariant-loop-change l =
    (rest : List NamedFile) → files_of (map changed l.changes ++ rest) l.name
    ≡ files_of (map changed (drop l.change-index l.changes) ++ rest) l.name
