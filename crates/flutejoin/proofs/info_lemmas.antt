-- Lemmas on the commands `info` and `info --list`.
pub mod AddedFacts
pub mod LineNumbers
pub mod LinePieces
pub mod LineSenders
pub mod ListLines
