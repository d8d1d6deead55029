pub mod Logs
pub mod FileReads
