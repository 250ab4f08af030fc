-- The definitions of this crate, and the laws that clauses rest on.
pub mod Keys
pub mod RowsKept
pub mod Steps
pub mod Keyed
