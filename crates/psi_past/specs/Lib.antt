-- The definitions of this crate, and the laws that clauses rest on.
pub mod ChaCha20
pub mod Seeded
pub mod SeedWord
pub mod Filled
pub mod Keeping
pub mod Drawn
