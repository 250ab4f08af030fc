-- The definitions of this crate, and the laws that clauses rest on.
pub mod Kinds
pub mod Moves
pub mod Refusals
pub mod Rows
pub mod Forms
pub mod Events
pub mod Inner
