pub mod Among
pub mod Digits
pub mod Words
pub mod Puts
pub mod Served
pub mod Determined
