-- The definitions of this crate, and the laws that clauses rest on.
pub mod Ranks
pub mod Alike
pub mod Mapping
pub mod Inner
pub mod Distinct
pub mod Refusal
pub mod Sizes
pub mod Surveys
