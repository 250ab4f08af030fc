-- The lemmas of this crate.
pub mod TableLemmas
pub mod FillingLemmas
pub mod VisitsLemmas
pub mod SumLemmas
pub mod SumsLemmas
pub mod TrailLemmas
