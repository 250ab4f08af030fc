-- The definitions of this crate.
pub mod Coupling
pub mod Valuing
