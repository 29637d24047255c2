pub mod Format
pub mod Kind
pub mod Compose
pub mod User
pub mod Samples
