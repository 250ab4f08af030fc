-- The definitions of this crate.
pub mod Seen
pub mod Reply
pub mod Ending
pub mod Written
pub mod Finished
pub mod Call
pub mod SeenBy
pub mod Run
