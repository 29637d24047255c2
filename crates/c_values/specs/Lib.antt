pub mod Reports
pub mod States
pub mod Whose
pub mod Words
pub mod Systems
pub mod Runs
