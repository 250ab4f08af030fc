-- The lemmas of this crate.
mod DigitsLemmas
mod WordsLemmas
mod TestingLemmas
mod LoweringLemmas
mod HoldingLemmas
mod ChangesLemmas
mod BuildingLemmas
mod MovingLemmas
mod PairingLemmas
mod WidthsLemmas
pub mod FollowingLemmas
mod SteppingLemmas
pub mod DescendingLemmas
mod FillingLemmas
mod UnitRulesLemmas
mod BitsLemmas
mod UnitFieldsLemmas
mod UnitWordsLemmas
