-- The definitions of this crate.
pub mod Log
pub mod Text
pub mod Room
pub mod Inner
pub mod Rows
pub mod Listed
