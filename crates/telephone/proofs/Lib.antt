pub mod Signs
pub mod Examples
