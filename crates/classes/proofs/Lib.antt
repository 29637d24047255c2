pub mod EventClasses
pub mod ReportSets
