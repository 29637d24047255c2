pub mod Bits
pub mod Fields
pub mod Overlay
pub mod Outcome
pub mod Lists
