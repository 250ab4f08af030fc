-- The definitions of this crate.
pub mod Lines
pub mod Scanned
pub mod LinesViews
pub mod Inner
