pub mod Digits
pub mod Word
pub mod Promises
