-- The definitions of this crate, and the laws that clauses rest on.
pub mod Errors
pub mod QueueTables
pub mod KindTables
pub mod PartTables
pub mod EventTables
pub mod Counting
pub mod Listing
pub mod RewardTables
pub mod Reading
