-- Lemmas on readers, in the order in which they cite each other.
pub mod Calls
pub mod Seen
pub mod Holding
pub mod Bodies
pub mod Whole
pub mod Loading
pub mod FileCalls
