-- Lemmas on the commands `extract` and `extract --all`.
pub mod Extracted
pub mod ObjectFacts
pub mod ObjectWriters
pub mod FileNames
pub mod FilesTold
pub mod FolderSteps
pub mod NamesApart
