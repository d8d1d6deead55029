-- Lemmas on lines that are printed.
pub mod Encoded
pub mod JsonPieces
pub mod NamedKeys
pub mod ReadLines
pub mod Senders
pub mod WrittenPieces
pub mod Written
