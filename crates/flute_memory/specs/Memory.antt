-- A folder in memory.
use Rattle.std.specs.Prelude.{Option, option_map, map}
use Rattle.flute_memory.specs.declared.memory_folder.StoredFile.{StoredFile}
use Rattle.flute_memory.specs.declared.memory_folder.MemoryFolder.{MemoryFolder}
use Rattle.flute_output.specs.Entries.{Stored, Entries}

-- a file in memory, as outputs speak of one
abbrev pub stored : StoredFile → Stored
stored file = record { bytes = file.bytes.items; on_disk = file.on_disk }

-- a file in memory that may be missing, as outputs speak of one
abbrev pub stored_files : Option StoredFile → Option Stored
stored_files file = option_map stored file

-- the two entries of a folder in memory, and what OUT was before
abbrev pub memory_entries : MemoryFolder → Entries
memory_entries folder = record {
  out = option_map stored folder.out;
  beside = option_map stored folder.beside;
  waiting = folder.waiting.items;
  found = option_map stored folder.found;
  past = map stored_files folder.past.items;
  named = folder.named;
}
