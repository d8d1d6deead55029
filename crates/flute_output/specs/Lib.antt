pub mod DiskEntries
pub mod DiskWrites
pub mod Entries
pub mod Modes
pub mod NewFolders
pub mod OutMoments
