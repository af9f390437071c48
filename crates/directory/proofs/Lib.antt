pub mod Turning
pub mod Filling
pub mod Laying
pub mod Calls
pub mod Determined
pub mod Theorems
