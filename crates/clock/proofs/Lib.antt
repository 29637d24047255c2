pub mod Offsets
pub mod Midnight
pub mod Expiries
