-- The definitions of this crate, and the laws that clauses rest on.
pub mod Closed
pub mod Diagram
pub mod Planned
