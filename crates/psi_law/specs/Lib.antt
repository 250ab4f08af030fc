-- The definitions of this crate.
pub mod Counting
pub mod Wheel
pub mod Chains
pub mod Elimination
pub mod Samples
pub mod Networks
pub mod Couplings
pub mod Values
pub mod Statements
