-- The definitions of this crate.
pub mod Command
pub mod Words
pub mod Request
pub mod Status
pub mod Tables
pub mod Paths
