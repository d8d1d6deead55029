pub mod Both
pub mod Waits
