-- The definitions of this crate, and the laws that clauses rest on.
pub mod Name
pub mod Inner
pub mod Network
pub mod Draft
pub mod Expansion
pub mod Valid
pub mod Made
pub mod Generated
