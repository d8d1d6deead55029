mod Closed
mod Checks
mod Comparisons
mod ListedNames
pub mod LeftFiles
pub mod ObjectBytes
pub mod OfNames
pub mod WithoutLists
pub mod WithoutNames
pub mod PrintedNames
pub mod Openings
pub mod SentNames
pub mod Since
mod FolderSteps
