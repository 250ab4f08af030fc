-- The lemmas of this crate.
mod NameLemmas
mod DescribedLemmas
mod GeneratedLemmas
mod PrintedLemmas
