-- The definitions of this crate.
pub mod Statements
pub mod Counted
