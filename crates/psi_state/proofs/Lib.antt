-- The lemmas of this crate.
pub mod ApartLemmas
pub mod ArraysLemmas
pub mod AscendingLemmas
pub mod BoxesLemmas
pub mod ComparingLemmas
pub mod HullLemmas
pub mod ListingLemmas
pub mod MembersLemmas
pub mod RepeatsLemmas
pub mod SameLemmas
pub mod SetsLemmas
pub mod StatesLemmas
pub mod VolumeLemmas
mod QuadsLemmas
mod CountingLemmas
mod OdometerLemmas
mod OrderLemmas
mod RowsLemmas
