pub mod Owed
pub mod Failures
