pub mod Events
pub mod Checks
