pub mod RecordClasses
pub mod Renewals
pub mod MadeClasses
pub mod Fronts
pub mod RenewedRecords
pub mod Theorems
pub mod Examples
