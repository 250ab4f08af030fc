-- The definitions of this crate, and the laws that clauses rest on.
pub mod Packed
pub mod Moves
pub mod Programs
pub mod Boxes
pub mod Views
pub mod Inner
pub mod UnitEvents
