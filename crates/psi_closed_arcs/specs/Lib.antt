-- The definitions of this crate.
pub mod Walks
pub mod Joining
pub mod Sums
pub mod Held
pub mod Inner
pub mod Windows
