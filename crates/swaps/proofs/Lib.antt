pub mod Mirror
pub mod Backward
pub mod Swapping
pub mod Twice
pub mod Determined
