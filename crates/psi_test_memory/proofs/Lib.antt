-- The lemmas of this crate.
mod WithinLemmas
