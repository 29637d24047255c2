pub mod Blocks
pub mod Repeats
pub mod WayBack
pub mod Runs
