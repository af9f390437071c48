pub mod Loops
pub mod Summed
pub mod Leading
pub mod Rows
pub mod Determined
pub mod Resumed
pub mod Running
pub mod Joining
