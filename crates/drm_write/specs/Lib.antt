pub mod Write
pub mod Allowed
