pub mod Clause
pub mod Native
pub mod Layout
