pub mod Frame
pub mod Input
