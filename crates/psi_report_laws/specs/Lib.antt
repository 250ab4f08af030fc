-- The definitions of this crate.
pub mod Described
pub mod Printed
