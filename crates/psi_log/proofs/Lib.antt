-- The lemmas of this crate.
pub mod StepsLemmas
pub mod HeaderLemmas
pub mod ReadLemmas
mod CutLemmas
pub mod ToldLemmas
pub mod StepLemmas
mod SlotLemmas
mod ReaderLemmas
pub mod PassLemmas
pub mod LogLemmas
pub mod FrontLemmas
mod Worked
