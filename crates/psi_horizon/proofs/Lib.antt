-- The lemmas of this crate.
pub mod RunsLemmas
pub mod AgreeingLemmas
pub mod SampleLemmas
mod AreasLemmas
mod RunningLemmas
