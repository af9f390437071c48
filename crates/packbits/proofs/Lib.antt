pub mod Onward
pub mod Placing
pub mod Packets
pub mod Planning
pub mod Putting
pub mod Determined
pub mod Theorems
pub mod Accepted
