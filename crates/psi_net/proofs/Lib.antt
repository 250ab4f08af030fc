-- The lemmas of this crate.
pub mod FrontLemmas
mod ErrorLemmas
mod TextsLemmas
mod KeptKindsLemmas
mod KeptQueuesLemmas
mod KeptEventsLemmas
pub mod KeptRewardsLemmas
pub mod NetworkLemmas
