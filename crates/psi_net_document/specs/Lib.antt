-- The definitions of this crate, and the laws that clauses rest on.
pub mod Refusal
pub mod Values
pub mod Names
pub mod References
pub mod Inner
pub mod Targets
