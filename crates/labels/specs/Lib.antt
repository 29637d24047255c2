pub mod Telephone
pub mod Rules
pub mod Rows
