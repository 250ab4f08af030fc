-- The lemmas of this crate.
mod MonotoneLemmas
