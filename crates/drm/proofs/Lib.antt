pub mod Front
pub mod Body
pub mod Units
pub mod Whole
pub mod Lengths
pub mod Examples
