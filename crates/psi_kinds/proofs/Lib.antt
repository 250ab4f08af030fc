-- The lemmas of this crate.
mod ChosenLemmas
mod RoutesLemmas
mod GuardsLemmas
mod FittingLemmas
mod DoesLemmas
mod AcceptingLemmas
pub mod ClosingLemmas
pub mod MoveLemmas
mod Worked
