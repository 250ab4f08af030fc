-- The lemmas of this crate.
pub mod ListLemmas
pub mod SetLemmas
pub mod RegionLemmas
pub mod JudgingLemmas
pub mod AcceptedLemmas
mod PassLemmas
mod Worked
