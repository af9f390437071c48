pub mod Seeking
pub mod Walking
pub mod Determined
