-- The definitions of this crate, and the laws that clauses rest on.
pub mod Runs
pub mod Agreeing
pub mod Sample
pub mod Planned
pub mod Inner
