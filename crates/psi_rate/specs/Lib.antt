-- The definitions of this crate, and the laws that clauses rest on.
pub mod Rates
pub mod Inner
pub mod Composition
pub mod Doubling
pub mod Least
pub mod Refusal
pub mod System
pub mod Outcomes
pub mod Numbers
pub mod Keeping
