-- The lemmas of this crate.
pub mod WordLemmas
pub mod NumberLemmas
pub mod ValueLemmas
pub mod NumeralLemmas
pub mod PieceLemmas
pub mod LineWordsLemmas
pub mod StateLemmas
pub mod MoveLemmas
pub mod RegionLemmas
pub mod ChangedLemmas
pub mod GivenLemmas
pub mod TurnLemmas
pub mod PieceTurnsLemmas
pub mod MovedLemmas
pub mod OrderLemmas
