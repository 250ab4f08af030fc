-- The definitions of this crate.
pub mod Recorded
pub mod Accepted
pub mod Walking
pub mod Sending
