-- Lemmas on the command `carousel`.
pub mod SentPackets
pub mod SentSoFar
pub mod SentObjects
pub mod SentLengths
pub mod SentReads
