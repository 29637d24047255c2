pub mod Ranges
pub mod Fronts
pub mod Filling
pub mod Written
pub mod ReadBack
pub mod WayBack
pub mod Allowing
pub mod Examples
