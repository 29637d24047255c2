pub mod Case
pub mod Samples
pub mod Cases
pub mod InterRoad
pub mod Broken
pub mod Fibs
