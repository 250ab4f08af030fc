-- The definitions of this crate, and the laws that clauses rest on.
pub mod Paced
pub mod Pooled
pub mod Inner
