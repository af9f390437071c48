pub mod Rows
pub mod Plans
pub mod Parts
