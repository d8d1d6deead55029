pub mod Semilattice
pub mod Cell
pub mod JoinMap
pub mod Stopped
pub mod Lends
pub mod MapLaws
