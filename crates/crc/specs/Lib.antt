pub mod Register
pub mod Block
