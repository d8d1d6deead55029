-- Lemmas on the command `gaps`.
pub mod Sessions
pub mod Closing
pub mod MovedAside
pub mod ObjectsListed
pub mod Keys
pub mod StatusLines
pub mod LongestRanges
pub mod GapsOpen
pub mod GapsListed
