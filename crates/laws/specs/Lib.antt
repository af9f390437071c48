pub mod Turns
pub mod Tabled
