pub mod Search
pub mod Channels
pub mod Plain
pub mod Planewise
pub mod Rowwise
pub mod Checks
pub mod Determined
