-- The definitions of this crate.
pub mod Status
pub mod Reports
pub mod Gives
pub mod Reply
pub mod Seen
pub mod Ended
pub mod Spared
pub mod Call
pub mod Run
