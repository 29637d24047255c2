pub mod Widths
pub mod Items
pub mod Packing
pub mod Content
pub mod Broken
pub mod Halves
pub mod Stored
pub mod Answers
