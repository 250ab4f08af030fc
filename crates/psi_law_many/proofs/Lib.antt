-- The lemmas of this crate.
pub mod ListsLemmas
pub mod UnmetLemmas
pub mod ScoreLemmas
pub mod PowerLemmas
pub mod ExponentialLemmas
pub mod BinomialLemmas
pub mod IntervalLemmas
pub mod BetsLemmas
pub mod QuantileLemmas
pub mod SquareLemmas
pub mod DrawsLemmas
pub mod BoundsLemmas
pub mod ChebyshevLemmas
pub mod NearLemmas
pub mod ReportLemmas
pub mod ManyLemmas
mod Worked
