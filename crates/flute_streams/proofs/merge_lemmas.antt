-- Lemmas on merges of streams, in the order in which they cite each other.
pub mod GoingOn
pub mod LowestFacts
pub mod LeadFacts
pub mod RankFacts
pub mod Places
pub mod RankedStreams
pub mod Finished
pub mod StreamTurns
pub mod StreamStops
pub mod StreamStates
pub mod Twos
pub mod LetGo
pub mod SameBytes
