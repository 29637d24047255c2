pub mod Feeding
pub mod Continuing
pub mod Fed
pub mod Formed
