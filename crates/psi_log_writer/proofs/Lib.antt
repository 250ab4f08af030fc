-- The lemmas of this crate.
pub mod SendingLemmas
pub mod WalkingLemmas
pub mod TextLemmas
pub mod RoomLemmas
pub mod RegionLemmas
pub mod BoundLemmas
pub mod WidthLemmas
pub mod AcceptedLemmas
mod Worked
