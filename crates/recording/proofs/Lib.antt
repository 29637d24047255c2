pub mod Lines
pub mod Going
pub mod Examples
pub mod Pieces
