-- The definitions of this crate, and the laws that clauses rest on.
pub mod Routing
pub mod Refusals
pub mod Acting
pub mod Inner
pub mod Accepted
pub mod Closed
pub mod Route
pub mod ServerKept
pub mod Leader
pub mod Ends
pub mod Coming
pub mod Keys
pub mod Offers
pub mod Falls
pub mod Pieces
