pub mod Made
pub mod Normal
pub mod Reads
pub mod Answers
