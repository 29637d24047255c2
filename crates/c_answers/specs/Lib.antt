pub mod Words
pub mod Refusals
pub mod Reports
pub mod Carriers
pub mod Tables
