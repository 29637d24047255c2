pub mod State
pub mod Reading
pub mod Step
pub mod Calls
pub mod Message
pub mod Transmission
pub mod Demand3
pub mod Reachable
