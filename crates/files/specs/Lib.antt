pub mod File
pub mod Parts
