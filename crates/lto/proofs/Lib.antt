pub mod Ranges
pub mod WayBack
pub mod Examples
