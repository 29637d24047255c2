pub mod Inverse
pub mod Fields
