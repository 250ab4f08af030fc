-- The definitions of this crate, and the laws that clauses rest on.
pub mod Inner
pub mod Room
pub mod Sets
