pub mod Memory
pub mod MemoryDisk
pub mod MemoryFolders
pub mod NewMemory
