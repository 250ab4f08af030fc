-- The lemmas of this crate.
pub mod OrderLemmas
pub mod PairsLemmas
pub mod HullsLemmas
pub mod StepsLemmas
pub mod AcceptedLemmas
pub mod IntervalsLemmas
pub mod PiecesLemmas
pub mod TellingLemmas
mod Worked
