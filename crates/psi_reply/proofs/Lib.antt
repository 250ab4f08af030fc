-- The lemmas of this crate.
pub mod EndingLemmas
pub mod ListingLemmas
pub mod ImagingLemmas
pub mod SamplingLemmas
pub mod CheckingLemmas
pub mod ReportingLemmas
pub mod CouplingLemmas
pub mod SurveyingLemmas
pub mod ClosingLemmas
pub mod JudgingLemmas
pub mod CertificatesLemmas
pub mod CertifyingLemmas
pub mod ReplayingLemmas
pub mod RepliesLemmas
pub mod EntriesLemmas
pub mod MarksLemmas
