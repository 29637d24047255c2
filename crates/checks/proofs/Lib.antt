pub mod Checked
pub mod InOrder
