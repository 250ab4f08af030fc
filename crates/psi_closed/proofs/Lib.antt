-- The lemmas of this crate.
pub mod ListsLemmas
pub mod ArcsLemmas
pub mod WalksLemmas
pub mod MovesLemmas
pub mod JoiningLemmas
pub mod HullLemmas
pub mod RunsLemmas
pub mod DiagramLemmas
pub mod StatesLemmas
pub mod PlanLemmas
pub mod FollowLemmas
pub mod WalkingLemmas
mod Worked
