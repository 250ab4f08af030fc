-- The lemmas of this crate.
pub mod TurnLemmas
pub mod ReadingLemmas
mod DistinctNamesLemmas
pub mod FoundLemmas
pub mod PigeonLemmas
pub mod TargetLemmas
mod ListsLemmas
mod MarksLemmas
mod UnknownKeysLemmas
