pub mod Entries
pub mod Turns
pub mod Objects
pub mod Journals
