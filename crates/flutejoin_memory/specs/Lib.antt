pub mod MemoryFiles
pub mod MemoryWorlds
pub mod NamedFiles
