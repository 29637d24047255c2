pub mod Table
pub mod Stages
