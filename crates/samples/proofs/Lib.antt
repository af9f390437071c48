pub mod Sums
pub mod Stored
pub mod Strips
pub mod Rows
pub mod Undo
pub mod Orders
pub mod Parts
pub mod Determined
