-- Lemmas on framed files, in the order in which they cite each other.
pub mod Sequences
pub mod ReadsUpTo
pub mod Framed
pub mod SoFar
pub mod Decisions
pub mod Framings
pub mod Passes
pub mod Existence
pub mod Records
pub mod Files
