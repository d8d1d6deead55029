-- named: the files before this one have another name.
use Rattle.std.proofs.Common.{◌≡◌, map, drop}
use Rattle.flutejoin_memory.specs.NamedFiles.{with_bytes}
use Rattle.flutejoin_memory.specs.MemoryFiles.{files_of}
use Rattle.flutejoin_memory.proofs.named_bytes.named.Given as goal

abbrev pub invariant-loop-file : goal.invariant-loop-file
invariant-loop-file l =
    files_of (map with_bytes l.files) l.name ≡ files_of (map with_bytes (drop l.file-index l.files))
    l.name
