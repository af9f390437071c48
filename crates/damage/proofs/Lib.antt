pub mod Marking
pub mod Exact
pub mod Loops
pub mod Begins
pub mod MarkedRows
pub mod Promised
pub mod Laws
pub mod Determined
