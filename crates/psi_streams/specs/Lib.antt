-- The definitions of this crate.
pub mod Asked
pub mod Named
pub mod Reply
pub mod Means
pub mod Seen
pub mod Ended
pub mod Drawing
pub mod Ways
pub mod Tabled
pub mod Call
pub mod Run
