-- The definitions of this crate, and the laws that clauses rest on.
pub mod State
pub mod Members
pub mod Boxes
pub mod Sets
pub mod Hull
pub mod Volume
pub mod Listing
pub mod Ascending
pub mod Inner
pub mod Hashing
pub mod Repeats
