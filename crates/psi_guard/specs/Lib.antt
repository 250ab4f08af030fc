-- The definitions of this crate, and the laws that clauses rest on.
pub mod Guarding
pub mod Inner
pub mod Refusals
pub mod Places
pub mod Rule
pub mod Envelope
pub mod Pieces
