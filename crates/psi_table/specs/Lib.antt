-- The definitions of this crate.
pub mod Table
pub mod Lines
pub mod Paths
pub mod PathLines
