pub mod Places
pub mod UnitsBack
