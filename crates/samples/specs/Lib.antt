pub mod Sample
pub mod Promises
