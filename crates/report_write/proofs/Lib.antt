pub mod Buffer
pub mod Tail
pub mod Kept
pub mod Multi
pub mod Forms
pub mod AsRead
pub mod WayBack
pub mod Whole
