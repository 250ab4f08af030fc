-- The definitions of this crate, and the laws that clauses rest on.
pub mod Reply
pub mod Means
pub mod Reads
pub mod Files
pub mod Ending
pub mod Call
pub mod Run
pub mod Headline
