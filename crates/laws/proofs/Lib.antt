pub mod Says
pub mod Groups
pub mod Picks
pub mod Lists
pub mod Faults
pub mod Turns
pub mod Tabled
pub mod Joined
