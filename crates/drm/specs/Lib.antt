pub mod Format
pub mod Payload
pub mod Read
