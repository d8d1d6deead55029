pub mod Fills
pub mod Copies
pub mod Frees
