-- The definitions of this crate.
pub mod Samples
pub mod Distinct
pub mod Quantities
pub mod Contents
pub mod Text
pub mod Report
pub mod Totals
pub mod Joined
pub mod Figures
pub mod Inner
