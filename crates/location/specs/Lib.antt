pub mod Flt
