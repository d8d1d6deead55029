-- Lemmas on the kinds of streams, in the order in which they cite each other.
pub mod Eithers
pub mod Chaining
pub mod Besides
pub mod Loans
pub mod JournalReads
pub mod OwnedReads
pub mod ListedFacts
pub mod ChosenFacts
pub mod Before
pub mod MinusTurns
pub mod MinusFacts
pub mod MinusLaws
pub mod SameJournals
