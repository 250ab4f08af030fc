-- The lemmas of this crate.
mod IntegerLemmas
mod SumLemmas
mod AbelLemmas
mod PackedLemmas
mod CountLemmas
mod StepLemmas
mod RisesLemmas
mod TotalLemmas
mod TallyLemmas
mod BuildLemmas
mod RunLemmas
pub mod AgreeLemmas
