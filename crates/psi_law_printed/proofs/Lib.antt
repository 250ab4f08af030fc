-- The lemmas of this crate.
mod AgreementLemmas
mod PrintedLemmas
mod Worked
