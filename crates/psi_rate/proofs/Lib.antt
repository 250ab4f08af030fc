-- The lemmas of this crate.
pub mod RatesLemmas
pub mod PowersLemmas
pub mod TotalsLemmas
pub mod CompositionLemmas
pub mod DoublingLemmas
pub mod LeastLemmas
pub mod FunctionsLemmas
pub mod OutcomesLemmas
pub mod EventTableLemmas
mod MarksLemmas
pub mod NumbersLemmas
mod DealtLemmas
pub mod Worked
