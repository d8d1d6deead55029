-- The proofs about lines of gaps and what they ask for.
pub mod Behind
pub mod Lists
pub mod FilledTurns
pub mod ReadLines
pub mod ListSteps
pub mod Enough
pub mod OneListing
pub mod GapsRise
pub mod PrintedLines
pub mod OwnGaps
pub mod NothingDiffers
pub mod OwnAnswers
