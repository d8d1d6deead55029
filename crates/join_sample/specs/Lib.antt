pub mod Object
pub mod Sessions
