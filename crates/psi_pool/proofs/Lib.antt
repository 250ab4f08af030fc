-- The lemmas of this crate.
pub mod SortingLemmas
pub mod PlacesLemmas
pub mod LinkingLemmas
pub mod ChainsLemmas
pub mod SeekingLemmas
pub mod RelinkingLemmas
pub mod KeepingLemmas
pub mod CountingLemmas
pub mod WithinLemmas
pub mod ListingLemmas
