pub mod Report
pub mod InterRoad
pub mod Answers
pub mod Read
pub mod Fits
pub mod Record
pub mod Samples
