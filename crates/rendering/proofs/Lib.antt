pub mod Gathering
pub mod Rowwise
pub mod Finishing
pub mod PackedRows
pub mod Picture
pub mod Determined
