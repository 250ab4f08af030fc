-- The lemmas of this crate.
pub mod EndingsLemmas
pub mod AboutsLemmas
pub mod ReplayingLemmas
pub mod AskedLemmas
pub mod HeadlineLemmas
pub mod ReadFilesLemmas
pub mod FinishingLemmas
pub mod CertifyingLemmas
pub mod RunningLemmas
pub mod SparingLemmas
