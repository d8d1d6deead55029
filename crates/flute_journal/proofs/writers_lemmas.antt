-- Lemmas on writers, in the order in which they cite each other.
pub mod Saving
pub mod Sending
pub mod WrittenSoFar
