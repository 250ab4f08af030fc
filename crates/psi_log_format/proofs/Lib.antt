-- The lemmas of this crate.
pub mod JoinedLemmas
pub mod LinePiecesLemmas
pub mod MoveLemmas
mod Worked
pub mod RowsLemmas
mod RegionsLemmas
