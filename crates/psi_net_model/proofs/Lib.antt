-- The lemmas of this crate.
mod CellsLemmas
pub mod QueueLemmas
pub mod CopyLemmas
pub mod KindLemmas
pub mod RewardLemmas
pub mod EventLemmas
mod ServersLemmas
mod PartsLemmas
mod LoweredLemmas
mod MoveLemmas
mod MakingLemmas
pub mod KeptGeneratedLemmas
