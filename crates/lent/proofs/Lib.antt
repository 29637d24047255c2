pub mod Passes
pub mod Lents
