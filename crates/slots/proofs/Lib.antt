pub mod Flipped
pub mod Spreading
pub mod Painting
pub mod Packing
pub mod Determined
