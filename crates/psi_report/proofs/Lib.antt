-- The lemmas of this crate.
pub mod PairLemmas
pub mod SummaryLemmas
mod SmallLemmas
mod CountLemmas
pub mod TotalsLemmas
mod RewardLemmas
pub mod StandsLemmas
mod HoldingLemmas
pub mod HorizonLemmas
pub mod FiguresLemmas
mod RowLemmas
mod TakingLemmas
