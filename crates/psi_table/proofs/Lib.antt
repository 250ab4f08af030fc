-- The lemmas of this crate.
pub mod NumberLemmas
pub mod LineLemmas
pub mod HeaderLemmas
pub mod TableLemmas
pub mod PathLineLemmas
pub mod PathHeaderLemmas
pub mod PathTableLemmas
pub mod AdditiveLemmas
