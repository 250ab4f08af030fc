-- The definitions of this crate.
pub mod Rises
pub mod Walker
pub mod Counts
pub mod Inner
pub mod ByWords
