-- The lemmas of this crate.
pub mod PlacesLemmas
pub mod WalkLemmas
pub mod VisitsLemmas
pub mod DigitsLemmas
pub mod AlikeLemmas
pub mod SpreadLemmas
pub mod RankTablesLemmas
pub mod SentLemmas
pub mod DistinctLemmas
pub mod ImagesLemmas
pub mod SizesLemmas
pub mod SurveysLemmas
pub mod RegionsLemmas
mod Worked
