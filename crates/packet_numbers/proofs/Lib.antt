pub mod Splices
pub mod Standing
pub mod Taking
pub mod Determined
