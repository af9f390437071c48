pub mod Page
pub mod Parts
