-- The lemmas of this crate.
pub mod JoinedLemmas
pub mod CountedLemmas
