pub mod Format
pub mod Figs
pub mod Structure
pub mod Walk
pub mod Read
pub mod Answers
pub mod Each
pub mod Refusals
