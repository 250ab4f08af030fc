-- The definitions of this crate.
pub mod Reading
pub mod Inner
pub mod Told
pub mod Cursor
