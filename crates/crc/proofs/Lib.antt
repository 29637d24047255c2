pub mod Entering
pub mod Width
pub mod Blocks
pub mod Examples
