pub mod Records
pub mod Table
pub mod Catalogue
pub mod Lives
pub mod Lent
