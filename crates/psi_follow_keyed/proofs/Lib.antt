-- The lemmas of this crate.
mod MarkingLemmas
mod RoutesLemmas
mod BuildingLemmas
