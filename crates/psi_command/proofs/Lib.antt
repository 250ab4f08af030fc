-- The lemmas of this crate.
pub mod NumeralsLemmas
pub mod AskingLemmas
