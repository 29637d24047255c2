pub mod Checks
pub mod Number
