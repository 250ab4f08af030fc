-- The lemmas of this crate.
pub mod CountsLemmas
pub mod SinkLemmas
pub mod FilesLemmas
pub mod FeedingLemmas
pub mod GivingLemmas
pub mod GrowingLemmas
pub mod AcceptingLemmas
pub mod AgreeingLemmas
