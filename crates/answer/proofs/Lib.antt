pub mod Promised
pub mod Handed
pub mod Chains
pub mod Filling
pub mod Determined
