-- The definitions of this crate.
pub mod Numbers
pub mod Reading
pub mod Small
pub mod Samples
pub mod Counts
pub mod Sound
pub mod Merging
pub mod Reached
pub mod Lines
