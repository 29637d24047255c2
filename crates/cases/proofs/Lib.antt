pub mod Hold
pub mod InterRoad
pub mod Broken
pub mod Fibs
