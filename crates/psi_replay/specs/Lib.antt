-- The definitions of this crate.
pub mod Verdict
pub mod Judging
pub mod Passes
pub mod Streams
pub mod Fed
