-- The definitions of this crate, and the laws that clauses rest on.
pub mod Inner
pub mod Extremes
pub mod Falls
