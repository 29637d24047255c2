pub mod Header
pub mod Data
pub mod Answers
pub mod Most
pub mod Examples
