-- The lemmas of this crate.
pub mod AlongLemmas
pub mod FutureLemmas
pub mod PathLemmas
mod Worked
