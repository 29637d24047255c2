pub mod Messages
pub mod Whole
