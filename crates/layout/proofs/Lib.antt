pub mod Accepted
pub mod Sizes
pub mod Whole
pub mod Placed
pub mod Determined
pub mod Theorems
pub mod Compared
