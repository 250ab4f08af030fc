-- The definitions of this crate.
pub mod Table
pub mod Inner
pub mod Trail
