pub mod Time
pub mod Expiry
pub mod Answers
