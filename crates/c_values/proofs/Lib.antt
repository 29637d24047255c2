pub mod ReportsBack
pub mod StatesBack
pub mod RunsBack
pub mod WordsBack
