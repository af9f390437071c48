pub mod Lettered
pub mod Same
pub mod Calls
pub mod Clauses
pub mod LayoutClauses
