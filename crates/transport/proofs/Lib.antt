pub mod Reversing
pub mod Twice
pub mod Copied
pub mod Determined
