-- Lemmas on the bytes of entries, in the order in which they cite each other.
pub mod Entries
pub mod Rising
pub mod Prefixes
pub mod Parts
pub mod Written
pub mod Decoded
pub mod SameFile
