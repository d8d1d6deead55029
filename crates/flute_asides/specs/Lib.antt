pub mod Asides
pub mod Readers
