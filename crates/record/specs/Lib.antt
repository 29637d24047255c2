pub mod Services
pub mod Locations
pub mod Layout
pub mod Classes
pub mod WellFormed
pub mod Zeros
pub mod Matching
pub mod Gone
