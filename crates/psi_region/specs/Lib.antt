-- The definitions of this crate, and the laws that clauses rest on.
pub mod Region
pub mod Inner
pub mod Covering
pub mod Followed
