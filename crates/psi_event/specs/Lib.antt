-- The definitions of this crate, and the laws that clauses rest on.
pub mod Law
pub mod Numbers
pub mod Choice
pub mod Idle
pub mod Inner
pub mod Piecewise
pub mod Setting
