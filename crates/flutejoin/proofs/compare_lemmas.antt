-- Lemmas on the command `compare`.
pub mod Cuts
pub mod FewRows
pub mod RowSums
pub mod RowsPut
pub mod RowsOfJournals
