pub mod Render
pub mod Planes
pub mod Finish
