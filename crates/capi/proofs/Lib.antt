pub mod Telling
pub mod OnLayouts
pub mod Flags
pub mod Determined
