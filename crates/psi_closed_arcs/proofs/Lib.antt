-- The lemmas of this crate.
pub mod WalksLemmas
mod SumsLemmas
pub mod RowsLemmas
pub mod MarkedLemmas
pub mod PuttingLemmas
