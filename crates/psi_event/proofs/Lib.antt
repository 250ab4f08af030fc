-- The lemmas of this crate.
pub mod ChoiceLemmas
pub mod LawLemmas
pub mod NumbersLemmas
pub mod SettingLemmas
pub mod TestingLemmas
