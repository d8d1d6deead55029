-- Names in memory, with what they were given and with what became of them.
use Rattle.std.specs.Prelude.{Some, option_map, string_bytes}
use Rattle.flutejoin_memory.specs.MemoryFiles.{NamedFile}
use Rattle.flutejoin_memory.specs.declared.changes.Change.{Change}
use Rattle.flutejoin_memory.specs.declared.named_bytes.NamedBytes.{NamedBytes}

-- a name in memory with its bytes, as a file
abbrev pub with_bytes : NamedBytes → NamedFile
with_bytes file = record { name = file.name.now; bytes = Some file.bytes.now }

-- the file that a change leaves
abbrev pub changed : Change → NamedFile
changed change =
    record { name = string_bytes change.name; bytes = option_map (λ b. b.items) change.bytes }
