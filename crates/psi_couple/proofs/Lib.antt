-- The lemmas of this crate.
pub mod OptionLemmas
pub mod PlansLemmas
pub mod CouplingLemmas
pub mod ValuingLemmas
pub mod AgreeingLemmas
mod Worked
