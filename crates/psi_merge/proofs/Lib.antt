-- The lemmas of this crate.
pub mod FindingLemmas
pub mod WordsLemmas
pub mod RunningLemmas
pub mod HeadingLemmas
pub mod EdgeLemmas
