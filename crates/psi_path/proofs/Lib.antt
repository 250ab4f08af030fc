-- The lemmas of this crate.
pub mod SetLemmas
pub mod IntegerLemmas
pub mod StandLemmas
pub mod BeginLemmas
pub mod StepLemmas
mod Worked
