-- The definitions of this crate.
pub mod Path
pub mod Sums
pub mod Additive
pub mod Running
