-- The definitions of this crate.
pub mod Lists
pub mod Values
pub mod Means
pub mod Near
pub mod Tails
pub mod Intervals
pub mod Bets
pub mod Quantiles
pub mod Reports
pub mod Statements
