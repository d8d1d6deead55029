-- A new folder in memory.
use Rattle.std.specs.Prelude.{Option, option_map, map}
use Rattle.flute_memory.specs.declared.memory_new_folder.MemoryFile.{MemoryFile}
use Rattle.flute_memory.specs.declared.memory_new_folder.MemoryFiles.{MemoryFiles}
use Rattle.flute_memory.specs.declared.memory_new_folder.MemoryNewFolder.{MemoryNewFolder}
use Rattle.flute_output.specs.NewFolders.{NamedFile, Filled, Places}

-- a file in memory, as folders speak of one
abbrev pub named_file : MemoryFile → NamedFile
named_file file = record { name = file.name.items; bytes = file.bytes.items }

-- a folder in memory, as outputs speak of one
abbrev pub filled : MemoryFiles → Filled
filled folder = record { files = map named_file folder.files.items; on_disk = folder.on_disk }

-- a folder in memory that may be missing, as outputs speak of one
abbrev pub filled_or_none : Option MemoryFiles → Option Filled
filled_or_none folder = option_map filled folder

-- what a new folder in memory shows to contracts
abbrev pub memory_places : MemoryNewFolder → Places
memory_places f = record {
  out = option_map filled f.out;
  beside = option_map filled f.beside;
  open_file = option_map named_file f.open_file;
  past = map filled_or_none f.past.items;
  named = f.named;
}
