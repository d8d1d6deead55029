-- Lemmas on the comparison of two streams, in the order in which they cite each other.
pub mod CountedRows
pub mod Meetings
pub mod RowKeys
pub mod RowsMet
pub mod Comparing
pub mod ComparedLaws
