pub mod Told
pub mod OnLayouts
pub mod OnPages
