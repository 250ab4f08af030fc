-- The definitions of this crate, and the laws that clauses rest on.
pub mod Held
pub mod Sums
pub mod Ranges
pub mod Spans
pub mod Worth
pub mod Refusing
pub mod Rewards
