pub mod Fields
pub mod Index
pub mod Numbers
pub mod Inverse
pub mod UserGroups
