pub mod Row
pub mod Resume
