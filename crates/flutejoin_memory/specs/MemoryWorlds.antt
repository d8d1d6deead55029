-- The files of a world in memory.
use Rattle.std.specs.Prelude.{◌++◌, map}
use Rattle.flutejoin_commands.specs.Files.{Files}
use Rattle.flutejoin_commands.specs.Folders.{FolderNames}
use Rattle.flutejoin_memory.specs.MemoryFiles.{files_of, folders_of, names_of}
use Rattle.flutejoin_memory.specs.NamedFiles.{with_bytes}
use Rattle.flutejoin_memory.specs.declared.memory_world.MemoryWorld.{MemoryWorld}

-- what became of a name, or else what it was given
abbrev pub memory_files : MemoryWorld → Files
memory_files world =
    files_of (names_of world.changes.told.changed.closed ++ map with_bytes world.given.now)

-- the new folders that were closed, and none at each other name
abbrev pub memory_folders : MemoryWorld → FolderNames
memory_folders world = folders_of world.changes.told.changed.folders
