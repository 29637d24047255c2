pub mod Events
pub mod Classes
pub mod Keys
