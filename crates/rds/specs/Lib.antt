pub mod Format
pub mod Read
pub mod Write
pub mod Repeat
pub mod Answers
pub mod Runs
