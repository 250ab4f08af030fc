-- The lemmas of this crate.
pub mod WritingLemmas
pub mod NamingLemmas
pub mod StatesLemmas
pub mod EndingsLemmas
pub mod RunningLemmas
pub mod FinishingLemmas
pub mod WalkingLemmas
