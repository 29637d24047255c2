pub mod Classes
pub mod Renewal
pub mod Current
