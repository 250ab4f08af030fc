-- The lemmas of this crate.
pub mod RunningLemmas
pub mod SparingLemmas
pub mod FinishingLemmas
pub mod AcceptedLemmas
pub mod StartingLemmas
pub mod EdgeLemmas
