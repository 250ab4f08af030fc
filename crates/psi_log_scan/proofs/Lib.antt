-- The lemmas of this crate.
pub mod CutLemmas
pub mod LineLemmas
pub mod ScanLemmas
pub mod RunLemmas
pub mod ApartLemmas
pub mod SameLemmas
pub mod RowsLemmas
pub mod SetLineLemmas
pub mod MoveLineLemmas
pub mod LikeLemmas
mod GatheredLemmas
