pub mod Disks
pub mod Moments
